-- From given bindings an expression, a test and a command have at most one derivation each.
use Rattle.std.proofs.Common.{◌≡◌, ℕ, Bool, true, false, not, ◌&&◌, ℤ, Some, None, Option, sym, refl, ap, subst, true≢false, arith}
use mathlib.Core.Path.{Path, PathP}
use mathlib.Core.HLevel.{Discrete, hedberg, is_prop→PathP, Π_set}
use mathlib.Core.Bool.{Bool-set}
use lib.IntN.{ℤ_set, ℤ_discrete}
use Rattle.imp.specs.Bindings.{Bindings, bind, Arithmetic, Writable}
use Rattle.imp.specs.Syntax.{Op, Aexp, Bexp, Com}
use Rattle.imp.specs.Syntax.Op.{plus, times}
use Rattle.imp.specs.Small.{result_of}
use Rattle.imp.specs.Large.{EvalA, EvalB, EvalC, steps_c}
use Rattle.imp.specs.Large.EvalA.{NUM, VAR, SUM, PROD}
use Rattle.imp.specs.Large.EvalB.{TRUE, FALSE, LESS, NOT, AND}
use Rattle.imp.specs.Large.EvalC.{SKIP, ASSGN, SEQ, IF-T, IF-F, WHILE-F, WHILE-T}

option_discrete : Discrete (Option ℤ)
option_discrete None None = yes refl
option_discrete None (Some b) = no (λ e. let z : ◌≡◌ {A = ℕ} 0 1 = cc in omega arith)
option_discrete (Some a) None = no (λ e. let z : ◌≡◌ {A = ℕ} 0 1 = cc in omega arith)
option_discrete (Some a) (Some b) = elim (ℤ_discrete a b) [ yes e ↦ yes (ap Some e) | no n ↦ no (λ e. n cc) ]

option_set : IsSet (Option ℤ)
option_set = hedberg option_discrete

-- over a set, a family whose pairs are all equal has at most one element at each place
fibre : {X : Type 0} {B : X → Type 0} → IsSet X → IsProp ((x : X) × B x) → (x : X) → IsProp (B x)
fibre {B} s p x y z = let q : Path ((x : _) × B x) (x, y) (x, z) = p (x, y) (x, z) in subst (λ (l : x ≡ x). PathP (λ i. B (l i)) y z) (s x x (λ i. (q i).0) refl) (λ i. (q i).1)

module _ (A : Arithmetic) (σ : Bindings) where
  abbrev pub OutA : Aexp → Type 0
  OutA a = (v : ℤ) × EvalA A σ a v

  abbrev pub OutB : Bexp → Type 0
  OutB b = (t : Bool) × EvalB A σ b t

  -- two numbers with their derivations, and their sum or product
  abbrev OutOp : Op → Aexp → Aexp → Type 0
  OutOp o a b = (r : ℤ) × (x : OutA a) × (y : OutA b) × (result_of A o x.0 y.0 ≡ Some r)

  only_op : (o : Op) {a b : Aexp} {x x' : OutA a} {y y' : OutA b} {r r' : ℤ} → x ≡ x' → y ≡ y' → (h : result_of A o x.0 y.0 ≡ Some r) (k : result_of A o x'.0 y'.0 ≡ Some r') → Path (OutOp o a b) (r, x, y, h) (r', x', y', k)
  only_op o {x} {x'} {y} {y'} {r} {r'} p q h k =
      let p₀ : x.0 ≡ x'.0 = ap (λ z. z.0) p in
      let q₀ : y.0 ≡ y'.0 = ap (λ z. z.0) q in
      let f : r ≡ r' = cc in
      λ i. (f i, p i, q i, is_prop→PathP (λ j. result_of A o (p j).0 (q j).0 ≡ Some (f j)) (λ j. option_set _ _) h k i)

  only_a : {a : Aexp} {u v : ℤ} (d : EvalA A σ a u) (e : EvalA A σ a v) → Path (OutA a) (u, d) (v, e)
  only_a (NUM {n} {v = u} h) (NUM {v} k) = let e : u ≡ v = cc in λ i. (e i, NUM (is_prop→PathP (λ j. A.numeral n ≡ e j) (λ j. ℤ_set _ _) h k i))
  only_a (VAR {x} {v = u} h) (VAR {v} k) = let e : u ≡ v = cc in λ i. (e i, VAR (is_prop→PathP (λ j. σ x ≡ Some (e j)) (λ j. option_set _ _) h k i))
  only_a (SUM d e h) (SUM d' e' k) = ap (λ y. (y.0, SUM y.1.1 y.2.1 y.3)) (only_op plus (only_a d d') (only_a e e') h k)
  only_a (PROD d e h) (PROD d' e' k) = ap (λ y. (y.0, PROD y.1.1 y.2.1 y.3)) (only_op times (only_a d d') (only_a e e') h k)

  pub one_a : (a : Aexp) → IsProp (OutA a)
  one_a a x y = only_a x.1 y.1

  only_b : {b : Bexp} {s t : Bool} (d : EvalB A σ b s) (e : EvalB A σ b t) → Path (OutB b) (s, d) (t, e)
  only_b TRUE TRUE = refl
  only_b FALSE FALSE = refl
  only_b (LESS {u} {v} {t = r} d e h) (LESS {u = u'} {v = v'} {t = r'} d' e' k) =
      let p = only_a d d' in
      let q = only_a e e' in
      let p₀ : u ≡ u' = ap (λ y. y.0) p in
      let q₀ : v ≡ v' = ap (λ y. y.0) q in
      let f : r ≡ r' = cc in
      λ i. (f i, LESS (p i).1 (q i).1 (is_prop→PathP (λ j. A.less (p j).0 (q j).0 ≡ f j) (λ j. Bool-set _ _) h k i))
  only_b (NOT {s} {t = r} d h) (NOT {s = s'} {t = r'} d' k) =
      let p = only_b d d' in
      let p₀ : s ≡ s' = ap (λ y. y.0) p in
      let f : r ≡ r' = cc in
      λ i. (f i, NOT (p i).1 (is_prop→PathP (λ j. not (p j).0 ≡ f j) (λ j. Bool-set _ _) h k i))
  only_b (AND {s} {t} {r} d e h) (AND {s = s'} {t = t'} {r = r'} d' e' k) =
      let p = only_b d d' in
      let q = only_b e e' in
      let p₀ : s ≡ s' = ap (λ y. y.0) p in
      let q₀ : t ≡ t' = ap (λ y. y.0) q in
      let f : r ≡ r' = cc in
      λ i. (f i, AND (p i).1 (q i).1 (is_prop→PathP (λ j. ((p j).0 && (q j).0) ≡ f j) (λ j. Bool-set _ _) h k i))

  pub one_b : (b : Bexp) → IsProp (OutB b)
  one_b b x y = only_b x.1 y.1

  test_prop : (b : Bexp) (t : Bool) → IsProp (EvalB A σ b t)
  test_prop b = fibre Bool-set (one_b b)

module _ (A : Arithmetic) (w : Writable) where
  abbrev pub Out : Com → Bindings → Type 0
  Out c σ = (τ : Bindings) × EvalC A w c σ τ

  both_ways : {b : Bexp} {σ σ' : Bindings} → σ ≡ σ' → EvalB A σ b true → EvalB A σ' b false → ⊥
  both_ways {b} {σ} s d e = true≢false (ap (λ y. y.0) (one_b A σ b (true, d) (false, subst (λ x. EvalB A x b false) (sym s) e)))

  same_test : {b : Bexp} {t : Bool} {σ σ' : Bindings} (s : σ ≡ σ') (d : EvalB A σ b t) (e : EvalB A σ' b t) → PathP (λ i. EvalB A (s i) b t) d e
  same_test {b} {t} s = is_prop→PathP (λ j. EvalB A (s j) b t) (λ j. test_prop A (s j) b t)

  only_c : {c : Com} {σ τ σ' τ' : Bindings} (d : EvalC A w c σ τ) (s : σ ≡ σ') (e : EvalC A w c σ' τ') → PathP (λ i. Out c (s i)) (τ, d) (τ', e)
  only_c SKIP s SKIP = λ i. (s i, SKIP)
  only_c (ASSGN {x} {a} {v} d h) s (ASSGN {v = v'} e k) =
      let p = is_prop→PathP (λ j. OutA A (s j) a) (λ j. one_a A (s j) a) (v, d) (v', e) in
      λ i. (bind (s i) x (p i).0, ASSGN (p i).1 (Bool-set (w x) true h k i))
  only_c (SEQ d e) s (SEQ d' e') =
      let p = only_c d s d' in
      let q = only_c e (λ i. (p i).0) e' in
      λ i. ((q i).0, SEQ (p i).1 (q i).1)
  only_c (IF-T b d) s (IF-T b' d') =
      let q = only_c d s d' in
      λ i. ((q i).0, IF-T (same_test s b b' i) (q i).1)
  only_c (IF-T b d) s (IF-F b' d') = absurd (both_ways s b b')
  only_c (IF-F b d) s (IF-T b' d') = absurd (both_ways (sym s) b' b)
  only_c (IF-F b d) s (IF-F b' d') =
      let q = only_c d s d' in
      λ i. ((q i).0, IF-F (same_test s b b' i) (q i).1)
  only_c (WHILE-F b) s (WHILE-F b') = λ i. (s i, WHILE-F (same_test s b b' i))
  only_c (WHILE-F b) s (WHILE-T b' d' e') = absurd (both_ways (sym s) b' b)
  only_c (WHILE-T b d e) s (WHILE-F b') = absurd (both_ways s b b')
  only_c (WHILE-T b d e) s (WHILE-T b' d' e') =
      let q = only_c d s d' in
      let r = only_c e (λ i. (q i).0) e' in
      λ i. ((r i).0, WHILE-T (same_test s b b' i) (q i).1 (r i).1)

  -- all that a command can end in from given bindings, with the derivation, is one thing
  pub one : (c : Com) (σ : Bindings) → IsProp (Out c σ)
  one c σ x y = only_c x.1 refl y.1

  pub same_end : {c : Com} {σ τ υ : Bindings} → EvalC A w c σ τ → EvalC A w c σ υ → τ ≡ υ
  same_end {c} {σ} {τ} {υ} d e = ap (λ y. y.0) (one c σ (τ, d) (υ, e))

  pub same_steps : {c : Com} {σ τ υ : Bindings} (d : EvalC A w c σ τ) (e : EvalC A w c σ υ) → steps_c A w d ≡ steps_c A w e
  same_steps {c} {σ} {τ} {υ} d e = ap (λ y. steps_c A w y.1) (one c σ (τ, d) (υ, e))

  pub same_derivation : {c : Com} {σ τ : Bindings} → IsProp (EvalC A w c σ τ)
  same_derivation {c} {σ} {τ} = fibre (Π_set λ x. option_set) (one c σ) τ
