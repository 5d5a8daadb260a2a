-- The kinds of syntax rows. A numeral, a name, a sum and a product are expressions; true, false, less, not and and
-- are tests; skip, an assignment, a sequence, an if and a while are commands.
use Rattle.std.specs.Prelude.{ℕ, Bool, true, false, cond, List, [], ◌∷◌, ℤ, pos, negsuc, Some, None, Option, ◌==◌, nat_lt, codes}
use Rattle.rows.specs.declared.syntax.Sort.{Sort}
use Rattle.rows.specs.declared.syntax.Sort.TheVariants.{Expression, Test, Command}
use Rattle.rows.specs.declared.syntax.Kind.{Kind}
use Rattle.rows.specs.declared.syntax.Kind.TheVariants.{Numeral, Name, Sum, Product, True, False, Less, Not, And, Skip, Assignment, Sequence, If, While}

-- the kind that a code stands for
abbrev pub kind_of : ℕ → Option Kind
kind_of code =
    cond (code == 1) (Some Numeral)
    (cond (code == 2) (Some Name)
    (cond (code == 3) (Some Sum)
    (cond (code == 4) (Some Product)
    (cond (code == 5) (Some True)
    (cond (code == 6) (Some False)
    (cond (code == 7) (Some Less)
    (cond (code == 8) (Some Not)
    (cond (code == 9) (Some And)
    (cond (code == 10) (Some Skip)
    (cond (code == 11) (Some Assignment)
    (cond (code == 12) (Some Sequence)
    (cond (code == 13) (Some If)
    (cond (code == 14) (Some While)
    None)))))))))))))

-- the sort of the phrases of a kind
abbrev pub sort_of : Kind → Sort
sort_of Numeral = Expression
sort_of Name = Expression
sort_of Sum = Expression
sort_of Product = Expression
sort_of True = Test
sort_of False = Test
sort_of Less = Test
sort_of Not = Test
sort_of And = Test
sort_of Skip = Command
sort_of Assignment = Command
sort_of Sequence = Command
sort_of If = Command
sort_of While = Command

-- the sorts of a kind's children, first to last
abbrev pub children_of : Kind → List Sort
children_of Numeral = []
children_of Name = []
children_of Sum = Expression ∷ Expression ∷ []
children_of Product = Expression ∷ Expression ∷ []
children_of True = []
children_of False = []
children_of Less = Expression ∷ Expression ∷ []
children_of Not = Test ∷ []
children_of And = Test ∷ Test ∷ []
children_of Skip = []
children_of Assignment = Expression ∷ []
children_of Sequence = Command ∷ Command ∷ []
children_of If = Test ∷ Command ∷ Command ∷ []
children_of While = Test ∷ Command ∷ []

-- a name is a number from 0 to 63
abbrev pub is_name : ℤ → Bool
is_name (pos n) = nat_lt n 64
is_name (negsuc n) = false

-- the datum of a kind that has none
abbrev pub is_zero : ℤ → Bool
is_zero (pos n) = n == 0
is_zero (negsuc n) = false

-- the data that a row of a kind may hold: any number in a numeral, the name of a name and of an assignment, else 0
abbrev pub admitted : Kind → ℤ → Bool
admitted Numeral datum = true
admitted Name datum = is_name datum
admitted Sum datum = is_zero datum
admitted Product datum = is_zero datum
admitted True datum = is_zero datum
admitted False datum = is_zero datum
admitted Less datum = is_zero datum
admitted Not datum = is_zero datum
admitted And datum = is_zero datum
admitted Skip datum = is_zero datum
admitted Assignment datum = is_name datum
admitted Sequence datum = is_zero datum
admitted If datum = is_zero datum
admitted While datum = is_zero datum

-- the word for the phrases of a kind
abbrev pub kind_name : Kind → List ℕ
kind_name Numeral = codes "numeral"
kind_name Name = codes "name"
kind_name Sum = codes "sum"
kind_name Product = codes "product"
kind_name True = codes "true"
kind_name False = codes "false"
kind_name Less = codes "less"
kind_name Not = codes "not"
kind_name And = codes "and"
kind_name Skip = codes "skip"
kind_name Assignment = codes "assignment"
kind_name Sequence = codes "sequence"
kind_name If = codes "if"
kind_name While = codes "while"
