-- The sixteen rules by their names, with the small steps that each adds to those of its premises.
use Rattle.std.specs.Prelude.{◌≡◌, ℕ, ◌+◌, Bool, true, false, not, ◌&&◌, ℤ, Some}
use Rattle.rows.specs.declared.derivation.Rule.{Rule}
use Rattle.rows.specs.declared.derivation.Rule.TheVariants.{Num, Var, Sum, Prod, True, False, Less, Not, And, Skip, Assgn, Seq, IfT, IfF, WhileF, WhileT}
use Rattle.imp.specs.Bindings.{Bindings, Arithmetic, Writable}
use Rattle.imp.specs.Syntax.{Aexp, Bexp, Com}
use Rattle.imp.specs.Syntax.Com.{while}
use Rattle.imp.specs.Large.{EvalA, EvalB, EvalC, steps_a, steps_b, steps_c}
use Rattle.imp.specs.Large.EvalA.{NUM, VAR, SUM, PROD}
use Rattle.imp.specs.Large.EvalB.{TRUE, FALSE, LESS, NOT, AND}
use Rattle.imp.specs.Large.EvalC.{SKIP, ASSGN, SEQ, IF-T, IF-F, WHILE-F, WHILE-T}

-- the small steps that a rule adds to those of its premises
abbrev pub adds : Rule → ℕ
adds Num = 0
adds Var = 1
adds Sum = 1
adds Prod = 1
adds True = 0
adds False = 0
adds Less = 1
adds Not = 1
adds And = 1
adds Skip = 0
adds Assgn = 1
adds Seq = 1
adds IfT = 1
adds IfF = 1
adds WhileF = 2
adds WhileT = 3

-- a derivation by this rule counts n small steps more than its premises
abbrev pub Adds : Rule → ℕ → Arithmetic → Writable → Type 0
Adds Num n A w = (σ : Bindings) (m v : ℤ) (h : A.numeral m ≡ v) → steps_a A σ (NUM h) ≡ n
Adds Var n A w = (σ : Bindings) (x : ℕ) (v : ℤ) (h : σ x ≡ Some v) → steps_a A σ (VAR {x = x} h) ≡ n
Adds Sum n A w = (σ : Bindings) (a b : Aexp) (u v r : ℤ) (d : EvalA A σ a u) (e : EvalA A σ b v) (h : A.sum u v ≡ Some r) → steps_a A σ (SUM d e h) ≡ steps_a A σ d + steps_a A σ e + n
Adds Prod n A w = (σ : Bindings) (a b : Aexp) (u v r : ℤ) (d : EvalA A σ a u) (e : EvalA A σ b v) (h : A.product u v ≡ Some r) → steps_a A σ (PROD d e h) ≡ steps_a A σ d + steps_a A σ e + n
Adds True n A w = (σ : Bindings) → steps_b A σ TRUE ≡ n
Adds False n A w = (σ : Bindings) → steps_b A σ FALSE ≡ n
Adds Less n A w = (σ : Bindings) (a b : Aexp) (u v : ℤ) (t : Bool) (d : EvalA A σ a u) (e : EvalA A σ b v) (h : A.less u v ≡ t) → steps_b A σ (LESS d e h) ≡ steps_a A σ d + steps_a A σ e + n
Adds Not n A w = (σ : Bindings) (b : Bexp) (s t : Bool) (d : EvalB A σ b s) (h : not s ≡ t) → steps_b A σ (NOT d h) ≡ steps_b A σ d + n
Adds And n A w = (σ : Bindings) (a b : Bexp) (s t r : Bool) (d : EvalB A σ a s) (e : EvalB A σ b t) (h : (s && t) ≡ r) → steps_b A σ (AND d e h) ≡ steps_b A σ d + steps_b A σ e + n
Adds Skip n A w = (σ : Bindings) → steps_c A w (SKIP {σ = σ}) ≡ n
Adds Assgn n A w = (σ : Bindings) (x : ℕ) (a : Aexp) (v : ℤ) (d : EvalA A σ a v) (h : w x ≡ true) → steps_c A w (ASSGN {x = x} d h) ≡ steps_a A σ d + n
Adds Seq n A w = (c d : Com) (σ τ υ : Bindings) (e : EvalC A w c σ τ) (f : EvalC A w d τ υ) → steps_c A w (SEQ e f) ≡ steps_c A w e + steps_c A w f + n
Adds IfT n A w = (b : Bexp) (c d : Com) (σ τ : Bindings) (t : EvalB A σ b true) (e : EvalC A w c σ τ) → steps_c A w (IF-T {d = d} t e) ≡ steps_b A σ t + steps_c A w e + n
Adds IfF n A w = (b : Bexp) (c d : Com) (σ τ : Bindings) (t : EvalB A σ b false) (e : EvalC A w d σ τ) → steps_c A w (IF-F {c = c} t e) ≡ steps_b A σ t + steps_c A w e + n
Adds WhileF n A w = (b : Bexp) (c : Com) (σ : Bindings) (t : EvalB A σ b false) → steps_c A w (WHILE-F {c = c} t) ≡ steps_b A σ t + n
Adds WhileT n A w = (b : Bexp) (c : Com) (σ τ υ : Bindings) (t : EvalB A σ b true) (e : EvalC A w c σ τ) (f : EvalC A w (while b c) τ υ) → steps_c A w (WHILE-T t e f) ≡ steps_b A σ t + steps_c A w e + steps_c A w f + n
