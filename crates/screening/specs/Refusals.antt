-- The published number of each refusal, and the place that it names: a row, or 0 where no row is at fault.
use Rattle.std.specs.Prelude.{ℕ, List, ◌++◌, codes, decimal}
use Rattle.screening.specs.declared.fault.Refusal.{Refusal}
use Rattle.screening.specs.declared.fault.ScreenFault.{ScreenFault}
use Rattle.screening.specs.declared.fault.ScreenFault.TheVariants.{Size, Memory, Malformed, Citation, SeveralTrees}

-- the refusals of screening
abbrev pub screen_refusal : ScreenFault → Refusal
screen_refusal Size = record { number = 21; place = 0 }
screen_refusal Memory = record { number = 22; place = 0 }
screen_refusal (Malformed row) = record { number = 23; place = row }
screen_refusal (Citation row) = record { number = 24; place = row }
screen_refusal (SeveralTrees row) = record { number = 25; place = row }

-- a refusal as text: its number and its place, both decimal
abbrev pub shown : Refusal → List ℕ
shown refusal = decimal refusal.number ++ codes " " ++ decimal refusal.place
