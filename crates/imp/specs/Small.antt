-- The small steps, leftmost first. A configuration is a command, what is left of a program, with the bindings.
use Rattle.std.specs.Prelude.{◌≡◌, ℕ, zero, suc, Bool, true, false, not, ◌&&◌, ℤ, Some, None, Option}
use Rattle.imp.specs.Bindings.{Bindings, bind, Arithmetic, Writable}
use Rattle.imp.specs.Syntax.{Op, Aexp, Bexp, Com}
use Rattle.imp.specs.Syntax.Op.{plus, times}
use Rattle.imp.specs.Syntax.Aexp.{num, val, name, op}
use Rattle.imp.specs.Syntax.Bexp.{lit, less, neg, and}
use Rattle.imp.specs.Syntax.Com.{skip, assign, seq, ifte, while}

-- the sum or product of two numbers, where there is one
abbrev pub result_of : Arithmetic → Op → ℤ → ℤ → Option ℤ
result_of A plus = A.sum
result_of A times = A.product

-- the number that a numeral or a value stands for, with no step; any other expression has yet to be evaluated
abbrev pub stands : Arithmetic → Aexp → Option ℤ
stands A (num n) = Some (A.numeral n)
stands A (val v) = Some v
stands A (name x) = None
stands A (op o a b) = None

module _ (A : Arithmetic) (σ : Bindings) where
  -- a step of an expression, which reads the bindings and does not change them
  pub data StepA : Aexp → Aexp → Type 0 where
    look : {x : ℕ} {v : ℤ} → σ x ≡ Some v → StepA (name x) (val v)
    op_left : {o : Op} {a a' b : Aexp} → StepA a a' → StepA (op o a b) (op o a' b)
    op_right : {o : Op} {a b b' : Aexp} {u : ℤ} → stands A a ≡ Some u → StepA b b' → StepA (op o a b) (op o a b')
    op_done : {o : Op} {a b : Aexp} {u v r : ℤ} → stands A a ≡ Some u → stands A b ≡ Some v → result_of A o u v ≡ Some r → StepA (op o a b) (val r)

  -- a step of a test
  pub data StepB : Bexp → Bexp → Type 0 where
    less_left : {a a' b : Aexp} → StepA a a' → StepB (less a b) (less a' b)
    less_right : {a b b' : Aexp} {u : ℤ} → stands A a ≡ Some u → StepA b b' → StepB (less a b) (less a b')
    less_done : {a b : Aexp} {u v : ℤ} {t : Bool} → stands A a ≡ Some u → stands A b ≡ Some v → A.less u v ≡ t → StepB (less a b) (lit t)
    neg_in : {b b' : Bexp} → StepB b b' → StepB (neg b) (neg b')
    neg_done : {s t : Bool} → not s ≡ t → StepB (neg (lit s)) (lit t)
    and_left : {a a' b : Bexp} → StepB a a' → StepB (and a b) (and a' b)
    and_right : {s : Bool} {b b' : Bexp} → StepB b b' → StepB (and (lit s) b) (and (lit s) b')
    and_done : {s t r : Bool} → (s && t) ≡ r → StepB (and (lit s) (lit t)) (lit r)

module _ (A : Arithmetic) (w : Writable) where
  -- a step of a command
  pub data StepC : Com → Bindings → Com → Bindings → Type 0 where
    assign_in : {x : ℕ} {a a' : Aexp} {σ : Bindings} → StepA A σ a a' → StepC (assign x a) σ (assign x a') σ
    assign_done : {x : ℕ} {a : Aexp} {v : ℤ} {σ : Bindings} → stands A a ≡ Some v → w x ≡ true → StepC (assign x a) σ skip (bind σ x v)
    seq_left : {c c' d : Com} {σ σ' : Bindings} → StepC c σ c' σ' → StepC (seq c d) σ (seq c' d) σ'
    seq_skip : {d : Com} {σ : Bindings} → StepC (seq skip d) σ d σ
    if_in : {b b' : Bexp} {c d : Com} {σ : Bindings} → StepB A σ b b' → StepC (ifte b c d) σ (ifte b' c d) σ
    if_true : {c d : Com} {σ : Bindings} → StepC (ifte (lit true) c d) σ c σ
    if_false : {c d : Com} {σ : Bindings} → StepC (ifte (lit false) c d) σ d σ
    unroll : {b : Bexp} {c : Com} {σ : Bindings} → StepC (while b c) σ (ifte b (seq c (while b c)) skip) σ

  -- n small steps, one after another; a run ends where they lead to skip
  pub data Steps : ℕ → Com → Bindings → Com → Bindings → Type 0 where
    none : {c : Com} {σ : Bindings} → Steps zero c σ c σ
    more : {n : ℕ} {c d e : Com} {σ τ υ : Bindings} → StepC c σ d τ → Steps n d τ e υ → Steps (suc n) c σ e υ
