-- A configuration is at its end, steps on, or is stuck for one cause.
use Rattle.std.proofs.Common.{◌≡◌, ℕ, Bool, true, false, not, ◌&&◌, ℤ, Some, None, Option, refl, ap, subst₂, arith}
use Rattle.imp.specs.Bindings.{Bindings, bind, Arithmetic, Writable}
use Rattle.imp.specs.Syntax.{Op, Aexp, Bexp, Com}
use Rattle.imp.specs.Syntax.Aexp.{num, val, name, op}
use Rattle.imp.specs.Syntax.Bexp.{lit, less, neg, and}
use Rattle.imp.specs.Syntax.Com.{skip, assign, seq, ifte, while}
use Rattle.imp.specs.Small.{stands, result_of, StepA, StepB, StepC}
use Rattle.imp.specs.Small.StepA.{look, op_left, op_right, op_done}
use Rattle.imp.specs.Small.StepB.{less_left, less_right, less_done, neg_in, neg_done, and_left, and_right, and_done}
use Rattle.imp.specs.Small.StepC.{assign_in, assign_done, seq_left, seq_skip, if_in, if_true, if_false, unroll}
use Rattle.imp.specs.Stuck.{Cause, StuckA, StuckB, Stuck}
use Rattle.imp.specs.Stuck.Cause.{unbound, no_result, unwritable}
use Rattle.imp.specs.Stuck.StuckA.{no_name, no_op, on_left, on_right}
use Rattle.imp.specs.Stuck.StuckB.{on_less_left, on_less_right, on_neg, on_and_left, on_and_right}
use Rattle.imp.specs.Stuck.Stuck.{on_value, no_write, on_first, on_test}
use Rattle.imp.specs.Next.{next}
use Rattle.imp.proofs.Next.{held_a, given, none as nothing}

module _ (A : Arithmetic) (σ : Bindings) where
  -- what stands for a number is not stuck
  apart : {a : Aexp} {e : Cause} {u : ℤ} → stands A a ≡ Some u → StuckA A σ e a → ⊥
  apart h k = let z : ◌≡◌ {A = ℕ} 0 1 = cc (held_a A σ k) in omega arith

  cause_a : {a : Aexp} {e f : Cause} → StuckA A σ e a → StuckA A σ f a → e ≡ f
  cause_a (no_name p) (no_name q) = refl
  cause_a (no_op {u} {v} p q r) (no_op {u = u'} {v = v'} p' q' r') = let e : u ≡ u' = cc in let f : v ≡ v' = cc in cc
  cause_a (no_op p q r) (on_left k) = absurd (apart p k)
  cause_a (no_op p q r) (on_right t k) = absurd (apart q k)
  cause_a (on_left k) (no_op p q r) = absurd (apart p k)
  cause_a (on_left k) (on_left l) = cause_a k l
  cause_a (on_left k) (on_right p l) = absurd (apart p k)
  cause_a (on_right p k) (no_op p' q r) = absurd (apart q k)
  cause_a (on_right p k) (on_left l) = absurd (apart p l)
  cause_a (on_right p k) (on_right q l) = cause_a k l

  cause_b : {b : Bexp} {e f : Cause} → StuckB A σ e b → StuckB A σ f b → e ≡ f
  cause_b (on_less_left k) (on_less_left l) = cause_a k l
  cause_b (on_less_left k) (on_less_right p l) = absurd (apart p k)
  cause_b (on_less_right p k) (on_less_left l) = absurd (apart p l)
  cause_b (on_less_right p k) (on_less_right q l) = cause_a k l
  cause_b (on_neg k) (on_neg l) = cause_b k l
  cause_b (on_and_left k) (on_and_right l) = elim k [ ]
  cause_b (on_and_right k) (on_and_left l) = elim l [ ]
  cause_b (on_and_left k) (on_and_left l) = cause_b k l
  cause_b (on_and_right k) (on_and_right l) = cause_b k l

  data PlaceA (a : Aexp) : Type 0 where
    known : (u : ℤ) → stands A a ≡ Some u → PlaceA a
    moves : (b : Aexp) → StepA A σ a b → PlaceA a
    blocked_a : (e : Cause) → StuckA A σ e a → PlaceA a

  place_name : (x : ℕ) (y : Option ℤ) → σ x ≡ y → PlaceA (name x)
  place_name x (Some v) h = moves (val v) (look h)
  place_name x None h = blocked_a (unbound x) (no_name h)

  place_op : (o : Op) (a b : Aexp) (u v : ℤ) → stands A a ≡ Some u → stands A b ≡ Some v → (y : Option ℤ) → result_of A o u v ≡ y → PlaceA (op o a b)
  place_op o a b u v p q (Some r) h = moves (val r) (op_done p q h)
  place_op o a b u v p q None h = blocked_a (no_result o u v) (no_op p q h)

  place_right : (o : Op) (a b : Aexp) (u : ℤ) → stands A a ≡ Some u → PlaceA b → PlaceA (op o a b)
  place_right o a b u p (known v q) = place_op o a b u v p q (result_of A o u v) refl
  place_right o a b u p (moves c s) = moves (op o a c) (op_right p s)
  place_right o a b u p (blocked_a e k) = blocked_a e (on_right p k)

  place_left : (o : Op) (a b : Aexp) → PlaceA a → PlaceA b → PlaceA (op o a b)
  place_left o a b (known u p) y = place_right o a b u p y
  place_left o a b (moves c s) y = moves (op o c b) (op_left s)
  place_left o a b (blocked_a e k) y = blocked_a e (on_left k)

  place_a : (a : Aexp) → PlaceA a
  place_a (num n) = known (A.numeral n) refl
  place_a (val v) = known v refl
  place_a (name x) = place_name x (σ x) refl
  place_a (op o a b) = place_left o a b (place_a a) (place_a b)

  data PlaceB (b : Bexp) : Type 0 where
    told : (t : Bool) → b ≡ lit t → PlaceB b
    moves_b : (c : Bexp) → StepB A σ b c → PlaceB b
    blocked_b : (e : Cause) → StuckB A σ e b → PlaceB b

  place_than : (a b : Aexp) (u : ℤ) → stands A a ≡ Some u → PlaceA b → PlaceB (less a b)
  place_than a b u p (known v q) = moves_b (lit (A.less u v)) (less_done p q refl)
  place_than a b u p (moves c s) = moves_b (less a c) (less_right p s)
  place_than a b u p (blocked_a e k) = blocked_b e (on_less_right p k)

  place_less : (a b : Aexp) → PlaceA a → PlaceA b → PlaceB (less a b)
  place_less a b (known u p) y = place_than a b u p y
  place_less a b (moves c s) y = moves_b (less c b) (less_left s)
  place_less a b (blocked_a e k) y = blocked_b e (on_less_left k)

  place_neg : (b : Bexp) → PlaceB b → PlaceB (neg b)
  place_neg b (told t e) = rw e (moves_b (lit (not t)) (neg_done refl))
  place_neg b (moves_b c s) = moves_b (neg c) (neg_in s)
  place_neg b (blocked_b e k) = blocked_b e (on_neg k)

  place_and : (a b : Bexp) → PlaceB a → PlaceB b → PlaceB (and a b)
  place_and a b (told t e) (told u f) = rw (e, f) (moves_b (lit (t && u)) (and_done refl))
  place_and a b (told t e) (moves_b c s) = rw e (moves_b (and (lit t) c) (and_right s))
  place_and a b (told t e) (blocked_b f k) = rw e (blocked_b f (on_and_right k))
  place_and a b (moves_b c s) y = moves_b (and c b) (and_left s)
  place_and a b (blocked_b e k) y = blocked_b e (on_and_left k)

  place_b : (b : Bexp) → PlaceB b
  place_b (lit t) = told t refl
  place_b (less a b) = place_less a b (place_a a) (place_a b)
  place_b (neg b) = place_neg b (place_b b)
  place_b (and a b) = place_and a b (place_b a) (place_b b)

module _ (A : Arithmetic) (w : Writable) where
  pub cause : {e f : Cause} {c : Com} {σ : Bindings} → Stuck A w e c σ → Stuck A w f c σ → e ≡ f
  cause (on_value {σ} k) (on_value l) = cause_a A σ k l
  cause (on_value {σ} k) (no_write p h) = absurd (apart A σ p k)
  cause (no_write {σ} p h) (on_value l) = absurd (apart A σ p l)
  cause (no_write {v} p h) (no_write {v = v'} q g) = let e : v ≡ v' = cc in cc
  cause (on_first k) (on_first l) = cause k l
  cause (on_test {σ} k) (on_test l) = cause_b A σ k l

  -- a configuration is at its end, steps on, or is stuck
  pub data Place (c : Com) (σ : Bindings) : Type 0 where
    at_end : c ≡ skip → Place c σ
    steps : (d : Com) (τ : Bindings) → StepC A w c σ d τ → Place c σ
    stuck : (e : Cause) → Stuck A w e c σ → Place c σ

  place_assign : (x : ℕ) (a : Aexp) (σ : Bindings) → PlaceA A σ a → (y : Bool) → w x ≡ y → Place (assign x a) σ
  place_assign x a σ (known u p) true h = steps skip (bind σ x u) (assign_done p h)
  place_assign x a σ (known u p) false h = stuck (unwritable x u) (no_write p h)
  place_assign x a σ (moves b s) y h = steps (assign x b) σ (assign_in s)
  place_assign x a σ (blocked_a e k) y h = stuck e (on_value k)

  place_seq : (c d : Com) (σ : Bindings) → Place c σ → Place (seq c d) σ
  place_seq c d σ (at_end e) = rw e (steps d σ seq_skip)
  place_seq c d σ (steps c' τ s) = steps (seq c' d) τ (seq_left s)
  place_seq c d σ (stuck e k) = stuck e (on_first k)

  place_lit : (t : Bool) (c d : Com) (σ : Bindings) → Place (ifte (lit t) c d) σ
  place_lit true c d σ = steps c σ if_true
  place_lit false c d σ = steps d σ if_false

  place_if : (b : Bexp) (c d : Com) (σ : Bindings) → PlaceB A σ b → Place (ifte b c d) σ
  place_if b c d σ (told t e) = rw e (place_lit t c d σ)
  place_if b c d σ (moves_b b' s) = steps (ifte b' c d) σ (if_in s)
  place_if b c d σ (blocked_b e k) = stuck e (on_test k)

  pub place : (c : Com) (σ : Bindings) → Place c σ
  place skip σ = at_end refl
  place (assign x a) σ = place_assign x a σ (place_a A σ a) (w x) refl
  place (seq c d) σ = place_seq c d σ (place c σ)
  place (ifte b c d) σ = place_if b c d σ (place_b A σ b)
  place (while b c) σ = steps (ifte b (seq c (while b c)) skip) σ unroll

  -- where `next` gives a configuration, that is the step
  taken : {c d : Com} {σ τ : Bindings} → next A w c σ ≡ Some (d, τ) → Place c σ → StepC A w c σ d τ
  taken h (at_end e) = let g = rw e at h in let z : ◌≡◌ {A = ℕ} 0 1 = cc in absurd (omega arith)
  taken {c} {d} {σ} {τ} h (steps d' τ' s) =
      let p : ◌≡◌ {A = Com × Bindings} (d', τ') (d, τ) = cc (given A w s) in
      subst₂ (StepC A w c σ) (ap (λ k. k.0) p) (ap (λ k. k.1) p) s
  taken h (stuck e k) = let z : ◌≡◌ {A = ℕ} 0 1 = cc (nothing A w k) in absurd (omega arith)

  pub sound : {c d : Com} {σ τ : Bindings} → next A w c σ ≡ Some (d, τ) → StepC A w c σ d τ
  sound {c} {σ} h = taken h (place c σ)

  -- where it gives none, and there is something left, that is stuck
  blocked : {c : Com} {σ : Bindings} → next A w c σ ≡ None → (c ≡ skip → ⊥) → Place c σ → (e : Cause) × Stuck A w e c σ
  blocked h n (at_end e) = absurd (n e)
  blocked h n (steps d τ s) = let z : ◌≡◌ {A = ℕ} 0 1 = cc (given A w s) in absurd (omega arith)
  blocked h n (stuck e k) = (e, k)

  pub held : {c : Com} {σ : Bindings} → next A w c σ ≡ None → (c ≡ skip → ⊥) → (e : Cause) × Stuck A w e c σ
  held {c} {σ} h n = blocked h n (place c σ)
