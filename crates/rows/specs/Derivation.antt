-- The rules of a derivation, by their usual names.
use Rattle.std.specs.Prelude.{ℕ, cond, List, [], ◌∷◌, Some, None, Option, ◌==◌, codes}
use Rattle.rows.specs.declared.derivation.Premise.{Premise}
use Rattle.rows.specs.declared.derivation.Premise.TheVariants.{First, Second, Third, Itself}
use Rattle.rows.specs.declared.derivation.Rule.{Rule}
use Rattle.rows.specs.declared.derivation.Rule.TheVariants.{Num, Var, Sum, Prod, True, False, Less, Not, And, Skip, Assgn, Seq, IfT, IfF, WhileF, WhileT}

-- the rule that a code stands for
abbrev pub rule_of : ℕ → Option Rule
rule_of code =
    cond (code == 1) (Some Num)
    (cond (code == 2) (Some Var)
    (cond (code == 3) (Some Sum)
    (cond (code == 4) (Some Prod)
    (cond (code == 5) (Some True)
    (cond (code == 6) (Some False)
    (cond (code == 7) (Some Less)
    (cond (code == 8) (Some Not)
    (cond (code == 9) (Some And)
    (cond (code == 10) (Some Skip)
    (cond (code == 11) (Some Assgn)
    (cond (code == 12) (Some Seq)
    (cond (code == 13) (Some IfT)
    (cond (code == 14) (Some IfF)
    (cond (code == 15) (Some WhileF)
    (cond (code == 16) (Some WhileT)
    None)))))))))))))))

-- what a rule's premises derive, first to last
abbrev pub premises_of : Rule → List Premise
premises_of Num = []
premises_of Var = []
premises_of Sum = First ∷ Second ∷ []
premises_of Prod = First ∷ Second ∷ []
premises_of True = []
premises_of False = []
premises_of Less = First ∷ Second ∷ []
premises_of Not = First ∷ []
premises_of And = First ∷ Second ∷ []
premises_of Skip = []
premises_of Assgn = First ∷ []
premises_of Seq = First ∷ Second ∷ []
premises_of IfT = First ∷ Second ∷ []
premises_of IfF = First ∷ Third ∷ []
premises_of WhileF = First ∷ []
premises_of WhileT = First ∷ Second ∷ Itself ∷ []

-- the usual name of a rule
abbrev pub rule_name : Rule → List ℕ
rule_name Num = codes "NUM"
rule_name Var = codes "VAR"
rule_name Sum = codes "SUM"
rule_name Prod = codes "PROD"
rule_name True = codes "TRUE"
rule_name False = codes "FALSE"
rule_name Less = codes "LESS"
rule_name Not = codes "NOT"
rule_name And = codes "AND"
rule_name Skip = codes "SKIP"
rule_name Assgn = codes "ASSGN"
rule_name Seq = codes "SEQ"
rule_name IfT = codes "IF-T"
rule_name IfF = codes "IF-F"
rule_name WhileF = codes "WHILE-F"
rule_name WhileT = codes "WHILE-T"
