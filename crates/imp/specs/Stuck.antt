-- Configurations that have no step and are not at their end, each with its cause.
use Rattle.std.specs.Prelude.{◌≡◌, ℕ, Bool, false, ℤ, Some, None}
use Rattle.imp.specs.Bindings.{Bindings, Arithmetic, Writable}
use Rattle.imp.specs.Syntax.{Op, Aexp, Bexp, Com}
use Rattle.imp.specs.Syntax.Aexp.{name, op}
use Rattle.imp.specs.Syntax.Bexp.{lit, less, neg, and}
use Rattle.imp.specs.Syntax.Com.{assign, seq, ifte}
use Rattle.imp.specs.Small.{result_of, stands}

-- why there is no step
pub data Cause : Type 0 where
  -- this name is not bound
  unbound : ℕ → Cause
  -- these two numbers have no sum, or no product
  no_result : Op → ℤ → ℤ → Cause
  -- this name may not be written, and would be bound to this number
  unwritable : ℕ → ℤ → Cause

module _ (A : Arithmetic) (σ : Bindings) where
  -- an expression is stuck: the cause stands where its next step would be
  pub data StuckA : Cause → Aexp → Type 0 where
    no_name : {x : ℕ} → σ x ≡ None → StuckA (unbound x) (name x)
    no_op : {o : Op} {a b : Aexp} {u v : ℤ} → stands A a ≡ Some u → stands A b ≡ Some v → result_of A o u v ≡ None → StuckA (no_result o u v) (op o a b)
    on_left : {e : Cause} {o : Op} {a b : Aexp} → StuckA e a → StuckA e (op o a b)
    on_right : {e : Cause} {o : Op} {a b : Aexp} {u : ℤ} → stands A a ≡ Some u → StuckA e b → StuckA e (op o a b)

  -- a test is stuck
  pub data StuckB : Cause → Bexp → Type 0 where
    on_less_left : {e : Cause} {a b : Aexp} → StuckA e a → StuckB e (less a b)
    on_less_right : {e : Cause} {a b : Aexp} {u : ℤ} → stands A a ≡ Some u → StuckA e b → StuckB e (less a b)
    on_neg : {e : Cause} {b : Bexp} → StuckB e b → StuckB e (neg b)
    on_and_left : {e : Cause} {a b : Bexp} → StuckB e a → StuckB e (and a b)
    on_and_right : {e : Cause} {t : Bool} {b : Bexp} → StuckB e b → StuckB e (and (lit t) b)

module _ (A : Arithmetic) (w : Writable) where
  -- a configuration is stuck
  pub data Stuck : Cause → Com → Bindings → Type 0 where
    on_value : {e : Cause} {x : ℕ} {a : Aexp} {σ : Bindings} → StuckA A σ e a → Stuck e (assign x a) σ
    no_write : {x : ℕ} {a : Aexp} {v : ℤ} {σ : Bindings} → stands A a ≡ Some v → w x ≡ false → Stuck (unwritable x v) (assign x a) σ
    on_first : {e : Cause} {c d : Com} {σ : Bindings} → Stuck e c σ → Stuck e (seq c d) σ
    on_test : {e : Cause} {b : Bexp} {c d : Com} {σ : Bindings} → StuckB A σ e b → Stuck e (ifte b c d) σ
