-- The next configuration, worked out: the small steps as a function.
use Rattle.std.specs.Prelude.{Bool, true, false, cond, not, ◌&&◌, Some, None, Option}
use Rattle.imp.specs.Bindings.{Bindings, bind, Arithmetic, Writable}
use Rattle.imp.specs.Syntax.{Aexp, Bexp, Com}
use Rattle.imp.specs.Syntax.Aexp.{num, val, name, op}
use Rattle.imp.specs.Syntax.Bexp.{lit, less, neg, and}
use Rattle.imp.specs.Syntax.Com.{skip, assign, seq, ifte, while}
use Rattle.imp.specs.Small.{result_of, stands}

-- what is made of a thing, if there is one
abbrev pub made_of : {X Y : Type 0} → (X → Y) → Option X → Option Y
made_of f None = None
made_of f (Some x) = Some (f x)

-- leftmost first: what the known part gives, or else a step of the part that is not known yet
abbrev pub known_or : {X Y : Type 0} → Option X → (X → Option Y) → Option Y → Option Y
known_or None f step = step
known_or (Some x) f step = f x

-- the truth value that a test is
abbrev pub truth : Bexp → Option Bool
truth (lit t) = Some t
truth (less a b) = None
truth (neg b) = None
truth (and a b) = None

-- whether a command is skip
abbrev pub ended : Com → Bool
ended skip = true
ended (assign x a) = false
ended (seq c d) = false
ended (ifte b c d) = false
ended (while b c) = false

module _ (A : Arithmetic) (σ : Bindings) where
  -- the step of an expression
  abbrev pub next_a : Aexp → Option Aexp
  next_a (num n) = None
  next_a (val v) = None
  next_a (name x) = made_of val (σ x)
  next_a (op o a b) =
      known_or (stands A a)
      (λ u. known_or (stands A b) (λ v. made_of val (result_of A o u v)) (made_of (op o a) (next_a b)))
      (made_of (λ a'. op o a' b) (next_a a))

  -- the step of a test
  abbrev pub next_b : Bexp → Option Bexp
  next_b (lit t) = None
  next_b (less a b) =
      known_or (stands A a)
      (λ u. known_or (stands A b) (λ v. Some (lit (A.less u v))) (made_of (less a) (next_a b)))
      (made_of (λ a'. less a' b) (next_a a))
  next_b (neg b) = known_or (truth b) (λ s. Some (lit (not s))) (made_of neg (next_b b))
  next_b (and a b) =
      known_or (truth a)
      (λ s. known_or (truth b) (λ t. Some (lit (s && t))) (made_of (and a) (next_b b)))
      (made_of (λ a'. and a' b) (next_b a))

module _ (A : Arithmetic) (w : Writable) where
  -- the next configuration
  abbrev pub next : Com → Bindings → Option (Com × Bindings)
  next skip σ = None
  next (assign x a) σ =
      known_or (stands A a) (λ v. cond (w x) (Some (skip, bind σ x v)) None) (made_of (λ a'. (assign x a', σ)) (next_a A σ a))
  next (seq c d) σ = cond (ended c) (Some (d, σ)) (made_of (λ k. (seq k.0 d, k.1)) (next c σ))
  next (ifte b c d) σ =
      known_or (truth b) (λ t. Some (cond t c d, σ)) (made_of (λ b'. (ifte b' c d, σ)) (next_b A σ b))
  next (while b c) σ = Some (ifte b (seq c (while b c)) skip, σ)
