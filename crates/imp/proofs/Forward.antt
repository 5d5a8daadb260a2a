-- A large-step derivation is a run of as many small steps as it counts.
use Rattle.std.proofs.Common.{◌≡◌, ℕ, ◌+◌, Bool, ℤ, Some, refl, ap, arith}
use Rattle.imp.specs.Bindings.{Bindings, Arithmetic, Writable}
use Rattle.imp.specs.Syntax.{Op, Aexp, Bexp, Com}
use Rattle.imp.specs.Syntax.Op.{plus, times}
use Rattle.imp.specs.Syntax.Aexp.{num, val, op}
use Rattle.imp.specs.Syntax.Bexp.{lit, less, neg, and}
use Rattle.imp.specs.Syntax.Com.{skip, assign, seq, ifte, while}
use Rattle.imp.specs.Small.{stands, result_of, StepA, StepB, Steps}
use Rattle.imp.specs.Small.StepA.{look, op_left, op_right, op_done}
use Rattle.imp.specs.Small.StepB.{less_left, less_right, less_done, neg_in, neg_done, and_left, and_right, and_done}
use Rattle.imp.specs.Small.StepC.{assign_in, assign_done, seq_left, seq_skip, if_in, if_true, if_false, unroll}
use Rattle.imp.specs.Small.Steps.{none, more}
use Rattle.imp.specs.Large.{EvalA, EvalB, EvalC, steps_a, steps_b, steps_c}
use Rattle.imp.specs.Large.EvalA.{NUM, VAR, SUM, PROD}
use Rattle.imp.specs.Large.EvalB.{TRUE, FALSE, LESS, NOT, AND}
use Rattle.imp.specs.Large.EvalC.{SKIP, ASSGN, SEQ, IF-T, IF-F, WHILE-F, WHILE-T}
use Rattle.imp.proofs.Chain.{Chain, chained, lift}
use Rattle.imp.proofs.Chain.Chain.{stay, go}

module _ (A : Arithmetic) (σ : Bindings) where
  -- small steps of an expression, and of a test
  abbrev pub StepsA : ℕ → Aexp → Aexp → Type 0
  StepsA = Chain (StepA A σ)

  abbrev pub StepsB : ℕ → Bexp → Bexp → Type 0
  StepsB = Chain (StepB A σ)

  -- steps to what stands for a number
  abbrev StepsTo : ℕ → Aexp → ℤ → Type 0
  StepsTo n a v = (a' : Aexp) × (stands A a' ≡ Some v) × StepsA n a a'

  forward_op : (o : Op) {a b : Aexp} {u v r : ℤ} {m n : ℕ} → StepsTo m a u → StepsTo n b v → result_of A o u v ≡ Some r → StepsTo (m + n + 1) (op o a b) r
  forward_op o {b} {r} (a', p, k) (b', q, l) h =
      let first = lift _ (StepA A σ) (λ x. op o x b) (λ x y s. op_left s) k in
      let second = lift _ (StepA A σ) (λ x. op o a' x) (λ x y s. op_right p s) l in
      (val r, refl, chained _ first (chained _ second (go (op_done p q h) stay) refl) (omega arith))

  forward_a : {a : Aexp} {v : ℤ} (d : EvalA A σ a v) → StepsTo (steps_a A σ d) a v
  forward_a (NUM {n} e) = (num n, ap Some e, stay)
  forward_a (VAR {v} e) = (val v, refl, go (look e) stay)
  forward_a (SUM d e h) = forward_op plus (forward_a d) (forward_a e) h
  forward_a (PROD d e h) = forward_op times (forward_a d) (forward_a e) h

  forward_b : {b : Bexp} {t : Bool} (d : EvalB A σ b t) → StepsB (steps_b A σ d) b (lit t)
  forward_b TRUE = stay
  forward_b FALSE = stay
  forward_b (LESS {b} d e h) =
      let (a', p, k) = forward_a d in
      let (b', q, l) = forward_a e in
      let first = lift _ (StepB A σ) (λ x. less x b) (λ x y s. less_left s) k in
      let second = lift _ (StepB A σ) (λ x. less a' x) (λ x y s. less_right p s) l in
      chained _ first (chained _ second (go (less_done p q h) stay) refl) (omega arith)
  forward_b (NOT d h) = chained _ (lift _ (StepB A σ) neg (λ x y s. neg_in s) (forward_b d)) (go (neg_done h) stay) refl
  forward_b (AND {b} {s = t} d e h) =
      let first = lift _ (StepB A σ) (λ x. and x b) (λ x y s. and_left s) (forward_b d) in
      let second = lift _ (StepB A σ) (λ x. and (lit t) x) (λ x y s. and_right s) (forward_b e) in
      chained _ first (chained _ second (go (and_done h) stay) refl) (omega arith)

module _ (A : Arithmetic) (w : Writable) where
  pub count : {n m : ℕ} {c d : Com} {σ τ : Bindings} → n ≡ m → Steps A w n c σ d τ → Steps A w m c σ d τ
  count {c} {d} {σ} {τ} e k = rw e at k

  pub then : {n m k : ℕ} {c d e : Com} {σ τ υ : Bindings} → Steps A w n c σ d τ → Steps A w m d τ e υ → k ≡ n + m → Steps A w k c σ e υ
  then none r e = count (omega arith) r
  then (more s k) r e = count (omega arith) (more s (then k r refl))

  pub on_first : {n : ℕ} {c c' : Com} {σ σ' : Bindings} (d : Com) → Steps A w n c σ c' σ' → Steps A w n (seq c d) σ (seq c' d) σ'
  on_first d none = none
  on_first d (more s k) = more (seq_left s) (on_first d k)

  on_value : {σ : Bindings} {n x : ℕ} {a a' : Aexp} → StepsA A σ n a a' → Steps A w n (assign x a) σ (assign x a') σ
  on_value stay = none
  on_value (go s k) = more (assign_in s) (on_value k)

  on_test : {σ : Bindings} {n : ℕ} {b b' : Bexp} {c d : Com} → StepsB A σ n b b' → Steps A w n (ifte b c d) σ (ifte b' c d) σ
  on_test stay = none
  on_test (go s k) = more (if_in s) (on_test k)

  pub forward : {c : Com} {σ τ : Bindings} (d : EvalC A w c σ τ) → Steps A w (steps_c A w d) c σ skip τ
  forward SKIP = none
  forward (ASSGN {σ} d h) = let (a', p, k) = forward_a A σ d in then (on_value k) (more (assign_done p h) none) refl
  forward (SEQ {d = f} d e) = then (on_first f (forward d)) (more seq_skip (forward e)) (omega arith)
  forward (IF-T {σ} b d) = then (on_test (forward_b A σ b)) (more if_true (forward d)) (omega arith)
  forward (IF-F {σ} b d) = then (on_test (forward_b A σ b)) (more if_false (forward d)) (omega arith)
  forward (WHILE-F {σ} b) = count (omega arith) (more unroll (then (on_test (forward_b A σ b)) (more if_false none) refl))
  forward (WHILE-T {b = t} {c} {σ} b d e) = count (omega arith) (more unroll (then (on_test (forward_b A σ b)) (more if_true (then (on_first (while t c) (forward d)) (more seq_skip (forward e)) refl)) refl))
