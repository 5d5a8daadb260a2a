-- A joined run takes one step more for each joining semicolon, and is made of the runs of its commands.
use Rattle.std.proofs.Common.{◌≡◌, ℕ, suc, ◌+◌, ◌-◌, List, [], ◌∷◌, length, refl, arith}
use Rattle.imp.specs.Bindings.{Bindings, Arithmetic, Writable}
use Rattle.imp.specs.Syntax.{Com}
use Rattle.imp.specs.Syntax.Com.{skip, seq}
use Rattle.imp.specs.Small.{Steps}
use Rattle.imp.specs.Small.StepC.{seq_left, seq_skip}
use Rattle.imp.specs.Small.Steps.{none, more}
use Rattle.imp.proofs.Forward.{count, then, on_first}
use Rattle.imp.specs.Joined.{joined, Runs}
use Rattle.imp.specs.Joined.Runs.{stop, run}

module _ (A : Arithmetic) (w : Writable) where
  pub join : {cs : List Com} {σ τ : Bindings} {n : ℕ} → Runs A w cs σ τ n → Steps A w (n + (length cs - 1)) (joined cs) σ skip τ
  join stop = none
  join (run r stop e) = count A w (omega arith) r
  join (run r (run s rs h) e) = count A w (omega arith) (then A w (on_first A w _ r) (more seq_skip (join (run s rs h))) refl)

  -- a run of a sequence is a run of its first command, one step for the semicolon, and a run of its second
  parts : {m : ℕ} {c d : Com} {σ υ : Bindings} → Steps A w m (seq c d) σ skip υ → (k l : ℕ) × (τ : Bindings) × Steps A w k c σ skip τ × Steps A w l d τ skip υ × (m ≡ k + l + 1)
  parts (more (seq_left s) r) = let (k, l, τ, a, b, e) = parts r in (suc k, l, τ, more s a, b, omega arith)
  parts (more {n} (seq_skip {σ}) r) = (0, n, σ, none, r, omega arith)

  pub part : (cs : List Com) {m : ℕ} {σ τ : Bindings} → Steps A w m (joined cs) σ skip τ → (n : ℕ) × Runs A w cs σ τ n × (m ≡ n + (length cs - 1))
  part [] none = (0, stop, refl)
  part [] (more s r) = elim s [ ]
  part (c ∷ []) {m} r = (m, run r stop (omega arith), omega arith)
  part (c ∷ d ∷ cs) r =
      let (k, l, τ, a, b, e) = parts r in
      let (n, rs, h) = part (d ∷ cs) b in
      (k + n, run a rs refl, omega arith)
