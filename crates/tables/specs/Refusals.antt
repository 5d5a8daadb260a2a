-- The published number of each refusal of a program, and the place that it names.
use Rattle.screening.specs.declared.fault.Refusal.{Refusal}
use Rattle.screening.specs.Refusals.{screen_refusal}
use Rattle.tables.specs.declared.fault.ProgramFault.{ProgramFault}
use Rattle.tables.specs.declared.fault.ProgramFault.TheVariants.{Screening, ChildSort, Datum, NotCommand}

-- those of screening, and the three that only a program has
abbrev pub program_refusal : ProgramFault → Refusal
program_refusal (Screening fault) = screen_refusal fault
program_refusal (ChildSort row) = record { number = 26; place = row }
program_refusal (Datum row) = record { number = 27; place = row }
program_refusal (NotCommand row) = record { number = 28; place = row }
