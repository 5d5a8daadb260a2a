-- A run of small steps of a command with no `val` in it, to skip, is a large-step derivation of that count.
use Rattle.std.proofs.Common.{◌≡◌, ℕ, suc, ◌+◌, Bool, true, false, not, ◌&&◌, ℤ, Some, refl, arith}
use Rattle.imp.specs.Bindings.{Bindings, bind, Arithmetic, Writable}
use Rattle.imp.specs.Syntax.{Op, Aexp, Bexp, Com, PlainA, PlainB, Plain}
use Rattle.imp.specs.Syntax.Op.{plus, times}
use Rattle.imp.specs.Syntax.Aexp.{num, val, name, op}
use Rattle.imp.specs.Syntax.Bexp.{lit, less, neg, and}
use Rattle.imp.specs.Syntax.Com.{skip, assign, seq, ifte, while}
use Rattle.imp.specs.Small.{stands, result_of, StepA, StepB, Steps, StepC}
use Rattle.imp.specs.Small.StepA.{look, op_left, op_right, op_done}
use Rattle.imp.specs.Small.StepB.{less_left, less_right, less_done, neg_in, neg_done, and_left, and_right, and_done}
use Rattle.imp.specs.Small.StepC.{assign_in, assign_done, seq_left, seq_skip, if_in, if_true, if_false, unroll}
use Rattle.imp.specs.Small.Steps.{none, more}
use Rattle.imp.specs.Large.{EvalA, EvalB, EvalC, steps_a, steps_b, steps_c}
use Rattle.imp.specs.Large.EvalA.{NUM, VAR, SUM, PROD}
use Rattle.imp.specs.Large.EvalB.{TRUE, FALSE, LESS, NOT, AND}
use Rattle.imp.specs.Large.EvalC.{SKIP, ASSGN, SEQ, IF-T, IF-F, WHILE-F, WHILE-T}

-- the large steps once more, with a rule for `val`, and the count of small steps as an index
module _ (A : Arithmetic) (σ : Bindings) where
  data EvA : Aexp → ℤ → ℕ → Type 0 where
    e_num : {n v : ℤ} → A.numeral n ≡ v → EvA (num n) v 0
    e_val : {v : ℤ} → EvA (val v) v 0
    e_name : {x : ℕ} {v : ℤ} → σ x ≡ Some v → EvA (name x) v 1
    e_op : {o : Op} {a b : Aexp} {u v r : ℤ} {m n k : ℕ} → EvA a u m → EvA b v n → result_of A o u v ≡ Some r → k ≡ m + n + 1 → EvA (op o a b) r k

  data EvB : Bexp → Bool → ℕ → Type 0 where
    e_lit : {t : Bool} → EvB (lit t) t 0
    e_less : {a b : Aexp} {u v : ℤ} {t : Bool} {m n k : ℕ} → EvA a u m → EvA b v n → A.less u v ≡ t → k ≡ m + n + 1 → EvB (less a b) t k
    e_not : {b : Bexp} {s t : Bool} {n k : ℕ} → EvB b s n → not s ≡ t → k ≡ n + 1 → EvB (neg b) t k
    e_and : {a b : Bexp} {s t r : Bool} {m n k : ℕ} → EvB a s m → EvB b t n → (s && t) ≡ r → k ≡ m + n + 1 → EvB (and a b) r k

  value : {a : Aexp} {v : ℤ} → stands A a ≡ Some v → EvA a v 0
  value {a = num n} h = e_num cc
  value {a = val u} {v} h = let e : u ≡ v = cc in rw e e_val
  value {a = name x} h = let z : ◌≡◌ {A = ℕ} 0 1 = cc in absurd (omega arith)
  value {a = op o a b} h = let z : ◌≡◌ {A = ℕ} 0 1 = cc in absurd (omega arith)

  back_a : {a a' : Aexp} {v : ℤ} {n : ℕ} → StepA A σ a a' → EvA a' v n → EvA a v (suc n)
  back_a (look h) e_val = e_name h
  back_a (op_left s) (e_op d e h k) = e_op (back_a s d) e h (omega arith)
  back_a (op_right p s) (e_op d e h k) = e_op d (back_a s e) h (omega arith)
  back_a (op_done p q h) e_val = e_op (value p) (value q) h refl

  back_b : {b b' : Bexp} {t : Bool} {n : ℕ} → StepB A σ b b' → EvB b' t n → EvB b t (suc n)
  back_b (less_left s) (e_less d e h k) = e_less (back_a s d) e h (omega arith)
  back_b (less_right p s) (e_less d e h k) = e_less d (back_a s e) h (omega arith)
  back_b (less_done p q h) e_lit = e_less (value p) (value q) h refl
  back_b (neg_in s) (e_not d h k) = e_not (back_b s d) h (omega arith)
  back_b (neg_done h) e_lit = e_not e_lit h refl
  back_b (and_left s) (e_and d e h k) = e_and (back_b s d) e h (omega arith)
  back_b (and_right s) (e_and d e h k) = e_and d (back_b s e) h (omega arith)
  back_b (and_done h) e_lit = e_and e_lit e_lit h refl

  large_a : {a : Aexp} {v : ℤ} {n : ℕ} → PlainA a → EvA a v n → (d : EvalA A σ a v) × (steps_a A σ d ≡ n)
  large_a p (e_num h) = (NUM h, refl)
  large_a p e_val = absurd p
  large_a p (e_name h) = (VAR h, refl)
  large_a p (e_op {o = plus} d e h k) = let (d', i) = large_a p.0 d in let (e', j) = large_a p.1 e in (SUM d' e' h, omega arith)
  large_a p (e_op {o = times} d e h k) = let (d', i) = large_a p.0 d in let (e', j) = large_a p.1 e in (PROD d' e' h, omega arith)

  large_b : {b : Bexp} {t : Bool} {n : ℕ} → PlainB b → EvB b t n → (d : EvalB A σ b t) × (steps_b A σ d ≡ n)
  large_b p (e_lit {t = true}) = (TRUE, refl)
  large_b p (e_lit {t = false}) = (FALSE, refl)
  large_b p (e_less d e h k) = let (d', i) = large_a p.0 d in let (e', j) = large_a p.1 e in (LESS d' e' h, omega arith)
  large_b p (e_not d h k) = let (d', i) = large_b p d in (NOT d' h, omega arith)
  large_b p (e_and d e h k) = let (d', i) = large_b p.0 d in let (e', j) = large_b p.1 e in (AND d' e' h, omega arith)

module _ (A : Arithmetic) (w : Writable) where
  data EvC : Com → Bindings → Bindings → ℕ → Type 0 where
    e_skip : {σ : Bindings} → EvC skip σ σ 0
    e_assign : {x : ℕ} {a : Aexp} {v : ℤ} {σ : Bindings} {n k : ℕ} → EvA A σ a v n → w x ≡ true → k ≡ n + 1 → EvC (assign x a) σ (bind σ x v) k
    e_seq : {c d : Com} {σ τ υ : Bindings} {m n k : ℕ} → EvC c σ τ m → EvC d τ υ n → k ≡ m + n + 1 → EvC (seq c d) σ υ k
    e_if_t : {b : Bexp} {c d : Com} {σ τ : Bindings} {m n k : ℕ} → EvB A σ b true m → EvC c σ τ n → k ≡ m + n + 1 → EvC (ifte b c d) σ τ k
    e_if_f : {b : Bexp} {c d : Com} {σ τ : Bindings} {m n k : ℕ} → EvB A σ b false m → EvC d σ τ n → k ≡ m + n + 1 → EvC (ifte b c d) σ τ k
    e_while_f : {b : Bexp} {c : Com} {σ : Bindings} {n k : ℕ} → EvB A σ b false n → k ≡ n + 2 → EvC (while b c) σ σ k
    e_while_t : {b : Bexp} {c : Com} {σ τ υ : Bindings} {l m n k : ℕ} → EvB A σ b true l → EvC c σ τ m → EvC (while b c) τ υ n → k ≡ l + m + n + 3 → EvC (while b c) σ υ k

  back_c : {c c' : Com} {σ σ' τ : Bindings} {n : ℕ} → StepC A w c σ c' σ' → EvC c' σ' τ n → EvC c σ τ (suc n)
  back_c (assign_in {σ} s) (e_assign d h k) = e_assign (back_a A σ s d) h (omega arith)
  back_c (assign_done {σ} p h) e_skip = e_assign (value A σ p) h refl
  back_c (seq_left s) (e_seq d e k) = e_seq (back_c s d) e (omega arith)
  back_c seq_skip d = e_seq e_skip d (omega arith)
  back_c (if_in {σ} s) (e_if_t b d k) = e_if_t (back_b A σ s b) d (omega arith)
  back_c (if_in {σ} s) (e_if_f b d k) = e_if_f (back_b A σ s b) d (omega arith)
  back_c if_true d = e_if_t e_lit d (omega arith)
  back_c if_false d = e_if_f e_lit d (omega arith)
  back_c unroll (e_if_t b (e_seq d e j) k) = e_while_t b d e (omega arith)
  back_c unroll (e_if_f b e_skip k) = e_while_f b (omega arith)

  gather : {n : ℕ} {c : Com} {σ τ : Bindings} → Steps A w n c σ skip τ → EvC c σ τ n
  gather none = e_skip
  gather (more s k) = back_c s (gather k)

  large_c : {c : Com} {σ τ : Bindings} {n : ℕ} → Plain c → EvC c σ τ n → (d : EvalC A w c σ τ) × (steps_c A w d ≡ n)
  large_c p e_skip = (SKIP, refl)
  large_c p (e_assign {σ} d h k) = let (d', i) = large_a A σ p d in (ASSGN d' h, omega arith)
  large_c p (e_seq d e k) = let (d', i) = large_c p.0 d in let (e', j) = large_c p.1 e in (SEQ d' e', omega arith)
  large_c p (e_if_t {σ} b d k) = let (b', i) = large_b A σ p.0 b in let (d', j) = large_c p.1 d in (IF-T b' d', omega arith)
  large_c p (e_if_f {σ} b d k) = let (b', i) = large_b A σ p.0 b in let (d', j) = large_c p.2 d in (IF-F b' d', omega arith)
  large_c p (e_while_f {σ} b k) = let (b', i) = large_b A σ p.0 b in (WHILE-F b', omega arith)
  large_c p (e_while_t {σ} b d e k) = let (b', i) = large_b A σ p.0 b in let (d', j) = large_c p.1 d in let (e', l) = large_c p e in (WHILE-T b' d' e', omega arith)

  pub backward : {n : ℕ} {c : Com} {σ τ : Bindings} → Plain c → Steps A w n c σ skip τ → (d : EvalC A w c σ τ) × (steps_c A w d ≡ n)
  backward p k = large_c p (gather k)
