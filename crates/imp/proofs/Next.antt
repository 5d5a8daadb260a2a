-- The function `next` gives every step, and nothing at skip or where a configuration is stuck. So there is at most one step.
use Rattle.std.proofs.Common.{◌≡◌, ℕ, false, Some, None, refl, ap, arith}
use Rattle.imp.specs.Bindings.{Bindings, Arithmetic, Writable}
use Rattle.imp.specs.Syntax.{Aexp, Bexp, Com}
use Rattle.imp.specs.Syntax.Com.{skip}
use Rattle.imp.specs.Small.{stands, StepA, StepB, StepC}
use Rattle.imp.specs.Small.StepA.{look, op_left, op_right, op_done}
use Rattle.imp.specs.Small.StepB.{less_left, less_right, less_done, neg_in, neg_done, and_left, and_right, and_done}
use Rattle.imp.specs.Small.StepC.{assign_in, assign_done, seq_left, seq_skip, if_in, if_true, if_false, unroll}
use Rattle.imp.specs.Stuck.{Cause, StuckA, StuckB, Stuck}
use Rattle.imp.specs.Stuck.StuckA.{no_name, no_op, on_left, on_right}
use Rattle.imp.specs.Stuck.StuckB.{on_less_left, on_less_right, on_neg, on_and_left, on_and_right}
use Rattle.imp.specs.Stuck.Stuck.{on_value, no_write, on_first, on_test}
use Rattle.imp.specs.Next.{truth, ended, next_a, next_b, next}

module _ (A : Arithmetic) (σ : Bindings) where
  -- what steps or is stuck has no value yet
  open_a : {a a' : Aexp} → StepA A σ a a' → stands A a ≡ None
  open_a (look h) = refl
  open_a (op_left s) = refl
  open_a (op_right p s) = refl
  open_a (op_done p q h) = refl

  pub held_a : {e : Cause} {a : Aexp} → StuckA A σ e a → stands A a ≡ None
  held_a (no_name h) = refl
  held_a (no_op p q h) = refl
  held_a (on_left k) = refl
  held_a (on_right p k) = refl

  open_b : {b b' : Bexp} → StepB A σ b b' → truth b ≡ None
  open_b (less_left s) = refl
  open_b (less_right p s) = refl
  open_b (less_done p q h) = refl
  open_b (neg_in s) = refl
  open_b (neg_done h) = refl
  open_b (and_left s) = refl
  open_b (and_right s) = refl
  open_b (and_done h) = refl

  held_b : {e : Cause} {b : Bexp} → StuckB A σ e b → truth b ≡ None
  held_b (on_less_left k) = refl
  held_b (on_less_right p k) = refl
  held_b (on_neg k) = refl
  held_b (on_and_left k) = refl
  held_b (on_and_right k) = refl

  given_a : {a a' : Aexp} → StepA A σ a a' → next_a A σ a ≡ Some a'
  given_a (look h) = rw h
  given_a (op_left s) = rw (open_a s, given_a s)
  given_a (op_right p s) = rw (p, open_a s, given_a s)
  given_a (op_done p q h) = rw (p, q, h)

  none_a : {e : Cause} {a : Aexp} → StuckA A σ e a → next_a A σ a ≡ None
  none_a (no_name h) = rw h
  none_a (no_op p q h) = rw (p, q, h)
  none_a (on_left k) = rw (held_a k, none_a k)
  none_a (on_right p k) = rw (p, held_a k, none_a k)

  given_b : {b b' : Bexp} → StepB A σ b b' → next_b A σ b ≡ Some b'
  given_b (less_left s) = rw (open_a s, given_a s)
  given_b (less_right p s) = rw (p, open_a s, given_a s)
  given_b (less_done p q h) = rw (p, q, h)
  given_b (neg_in s) = rw (open_b s, given_b s)
  given_b (neg_done h) = rw h
  given_b (and_left s) = rw (open_b s, given_b s)
  given_b (and_right s) = rw (open_b s, given_b s)
  given_b (and_done h) = rw h

  none_b : {e : Cause} {b : Bexp} → StuckB A σ e b → next_b A σ b ≡ None
  none_b (on_less_left k) = rw (held_a k, none_a k)
  none_b (on_less_right p k) = rw (p, held_a k, none_a k)
  none_b (on_neg k) = rw (held_b k, none_b k)
  none_b (on_and_left k) = rw (held_b k, none_b k)
  none_b (on_and_right k) = rw (held_b k, none_b k)

module _ (A : Arithmetic) (w : Writable) where
  open_c : {c d : Com} {σ τ : Bindings} → StepC A w c σ d τ → ended c ≡ false
  open_c (assign_in s) = refl
  open_c (assign_done p h) = refl
  open_c (seq_left s) = refl
  open_c seq_skip = refl
  open_c (if_in s) = refl
  open_c if_true = refl
  open_c if_false = refl
  open_c unroll = refl

  held_c : {e : Cause} {c : Com} {σ : Bindings} → Stuck A w e c σ → ended c ≡ false
  held_c (on_value k) = refl
  held_c (no_write p h) = refl
  held_c (on_first k) = refl
  held_c (on_test k) = refl

  pub given : {c d : Com} {σ τ : Bindings} → StepC A w c σ d τ → next A w c σ ≡ Some (d, τ)
  given (assign_in {σ} s) = rw (open_a A σ s, given_a A σ s)
  given (assign_done p h) = rw (p, h)
  given (seq_left s) = rw (open_c s, given s)
  given seq_skip = refl
  given (if_in {σ} s) = rw (open_b A σ s, given_b A σ s)
  given if_true = refl
  given if_false = refl
  given unroll = refl

  pub none : {e : Cause} {c : Com} {σ : Bindings} → Stuck A w e c σ → next A w c σ ≡ None
  none (on_value {σ} k) = rw (held_a A σ k, none_a A σ k)
  none (no_write p h) = rw (p, h)
  none (on_first k) = rw (held_c k, none k)
  none (on_test {σ} k) = rw (held_b A σ k, none_b A σ k)

  -- a configuration has at most one step
  pub one_next : {c d e : Com} {σ τ υ : Bindings} → StepC A w c σ d τ → StepC A w c σ e υ → (d ≡ e) × (τ ≡ υ)
  one_next {d} {e} {τ} {υ} s t = let p : ◌≡◌ {A = Com × Bindings} (d, τ) (e, υ) = cc (given s, given t) in (ap (λ k. k.0) p, ap (λ k. k.1) p)

  pub skip_rests : {c : Com} {σ τ : Bindings} → StepC A w skip σ c τ → ⊥
  skip_rests s = elim s [ ]

  pub stuck_rests : {e : Cause} {c d : Com} {σ τ : Bindings} → Stuck A w e c σ → StepC A w c σ d τ → ⊥
  stuck_rests k s = let z : ◌≡◌ {A = ℕ} 0 1 = cc (none k, given s) in omega arith

  pub unfinished : {e : Cause} {c : Com} {σ : Bindings} → Stuck A w e c σ → c ≡ skip → ⊥
  unfinished k e = let z : ◌≡◌ {A = ℕ} 0 1 = cc (held_c k, ap ended e) in omega arith
