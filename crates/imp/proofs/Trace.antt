-- Runs of small steps: after as many steps from one configuration there is one configuration.
use Rattle.std.proofs.Common.{◌≡◌, ℕ, zero, suc, ◌-◌, ◌≤◌, sym, refl, ap, subst₂, arith}
use Rattle.imp.specs.Bindings.{Bindings, Arithmetic, Writable}
use Rattle.imp.specs.Syntax.{Com}
use Rattle.imp.specs.Syntax.Com.{skip}
use Rattle.imp.specs.Small.{Steps}
use Rattle.imp.specs.Small.Steps.{none, more}
use Rattle.imp.specs.Stuck.{Cause, Stuck}
use Rattle.imp.proofs.Forward.{count}
use Rattle.imp.proofs.Next.{one_next, stuck_rests, unfinished}

module _ (A : Arithmetic) (w : Writable) where
  pub same_place : {n : ℕ} {c d e : Com} {σ τ υ : Bindings} → Steps A w n c σ d τ → Steps A w n c σ e υ → (d ≡ e) × (τ ≡ υ)
  same_place none none = (refl, refl)
  same_place (more {n} s k) (more {e} {υ} t l) = let (p, q) = one_next A w s t in same_place k (subst₂ (λ x y. Steps A w n x y e υ) (sym p) (sym q) l)

  -- n steps go through a configuration after each m of them
  pub through : (m : ℕ) {n : ℕ} {c e : Com} {σ υ : Bindings} → m ≤ n → Steps A w n c σ e υ → (d : Com) × (τ : Bindings) × Steps A w m c σ d τ × Steps A w (n - m) d τ e υ
  through zero {c} {σ} h r = (c, σ, none, count A w (omega arith) r)
  through (suc m) h none = absurd (omega arith)
  through (suc m) h (more s r) = let (d, τ, a, b) = through m (omega arith) r in (d, τ, more s a, count A w (omega arith) b)

  -- two runs to skip from one place are of one length, and end in the same bindings
  pub same_run : {m n : ℕ} {c : Com} {σ τ υ : Bindings} → Steps A w m c σ skip τ → Steps A w n c σ skip υ → (m ≡ n) × (τ ≡ υ)
  same_run none none = (refl, refl)
  same_run none (more t l) = elim t [ ]
  same_run (more s k) none = elim s [ ]
  same_run (more s k) (more {n} {υ} t l) = let (p, q) = one_next A w s t in let (i, j) = same_run k (subst₂ (λ x y. Steps A w n x y skip υ) (sym p) (sym q) l) in (ap suc i, j)

  -- what comes to be stuck does not end
  pub never_ends : {i j : ℕ} {c d : Com} {σ τ υ : Bindings} {e : Cause} → Steps A w i c σ d τ → Stuck A w e d τ → Steps A w j c σ skip υ → ⊥
  never_ends none k none = unfinished A w k refl
  never_ends none k (more t l) = stuck_rests A w k t
  never_ends (more s r) k none = elim s [ ]
  never_ends (more s r) k (more {n} {υ} t l) = let (p, q) = one_next A w s t in never_ends r k (subst₂ (λ x y. Steps A w n x y skip υ) (sym p) (sym q) l)
