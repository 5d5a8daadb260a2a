-- The large steps: a derivation is a tree of the sixteen rules, and counts the small steps that it stands for.
use Rattle.std.specs.Prelude.{◌≡◌, ℕ, ◌+◌, Bool, true, false, not, ◌&&◌, ℤ, Some}
use Rattle.imp.specs.Bindings.{Bindings, bind, Arithmetic, Writable}
use Rattle.imp.specs.Syntax.{Aexp, Bexp, Com}
use Rattle.imp.specs.Syntax.Op.{plus, times}
use Rattle.imp.specs.Syntax.Aexp.{num, name, op}
use Rattle.imp.specs.Syntax.Bexp.{lit, less, neg, and}
use Rattle.imp.specs.Syntax.Com.{skip, assign, seq, ifte, while}

module _ (A : Arithmetic) (σ : Bindings) where
  -- under these bindings an expression has this number
  pub data EvalA : Aexp → ℤ → Type 0 where
    NUM : {n v : ℤ} → A.numeral n ≡ v → EvalA (num n) v
    VAR : {x : ℕ} {v : ℤ} → σ x ≡ Some v → EvalA (name x) v
    SUM : {a b : Aexp} {u v r : ℤ} → EvalA a u → EvalA b v → A.sum u v ≡ Some r → EvalA (op plus a b) r
    PROD : {a b : Aexp} {u v r : ℤ} → EvalA a u → EvalA b v → A.product u v ≡ Some r → EvalA (op times a b) r

  -- under these bindings a test has this truth value
  pub data EvalB : Bexp → Bool → Type 0 where
    TRUE : EvalB (lit true) true
    FALSE : EvalB (lit false) false
    LESS : {a b : Aexp} {u v : ℤ} {t : Bool} → EvalA a u → EvalA b v → A.less u v ≡ t → EvalB (less a b) t
    NOT : {b : Bexp} {s t : Bool} → EvalB b s → not s ≡ t → EvalB (neg b) t
    AND : {a b : Bexp} {s t r : Bool} → EvalB a s → EvalB b t → (s && t) ≡ r → EvalB (and a b) r

  -- the small steps of an expression's derivation: those of its premises, and those that its rule adds
  abbrev pub steps_a : {a : Aexp} {v : ℤ} → EvalA a v → ℕ
  steps_a (NUM e) = 0
  steps_a (VAR e) = 1
  steps_a (SUM d e r) = steps_a d + steps_a e + 1
  steps_a (PROD d e r) = steps_a d + steps_a e + 1

  -- those of a test's
  abbrev pub steps_b : {b : Bexp} {t : Bool} → EvalB b t → ℕ
  steps_b TRUE = 0
  steps_b FALSE = 0
  steps_b (LESS d e r) = steps_a d + steps_a e + 1
  steps_b (NOT d r) = steps_b d + 1
  steps_b (AND d e r) = steps_b d + steps_b e + 1

module _ (A : Arithmetic) (w : Writable) where
  -- from these bindings a command ends in those
  pub data EvalC : Com → Bindings → Bindings → Type 0 where
    SKIP : {σ : Bindings} → EvalC skip σ σ
    ASSGN : {x : ℕ} {a : Aexp} {v : ℤ} {σ : Bindings} → EvalA A σ a v → w x ≡ true → EvalC (assign x a) σ (bind σ x v)
    SEQ : {c d : Com} {σ τ υ : Bindings} → EvalC c σ τ → EvalC d τ υ → EvalC (seq c d) σ υ
    IF-T : {b : Bexp} {c d : Com} {σ τ : Bindings} → EvalB A σ b true → EvalC c σ τ → EvalC (ifte b c d) σ τ
    IF-F : {b : Bexp} {c d : Com} {σ τ : Bindings} → EvalB A σ b false → EvalC d σ τ → EvalC (ifte b c d) σ τ
    WHILE-F : {b : Bexp} {c : Com} {σ : Bindings} → EvalB A σ b false → EvalC (while b c) σ σ
    WHILE-T : {b : Bexp} {c : Com} {σ τ υ : Bindings} → EvalB A σ b true → EvalC c σ τ → EvalC (while b c) τ υ → EvalC (while b c) σ υ

  -- those of a command's
  abbrev pub steps_c : {c : Com} {σ τ : Bindings} → EvalC c σ τ → ℕ
  steps_c SKIP = 0
  steps_c (ASSGN {σ = s} d h) = steps_a A s d + 1
  steps_c (SEQ d e) = steps_c d + steps_c e + 1
  steps_c (IF-T {σ = s} b d) = steps_b A s b + steps_c d + 1
  steps_c (IF-F {σ = s} b d) = steps_b A s b + steps_c d + 1
  steps_c (WHILE-F {σ = s} b) = steps_b A s b + 2
  steps_c (WHILE-T {σ = s} b d e) = steps_b A s b + steps_c d + steps_c e + 3
