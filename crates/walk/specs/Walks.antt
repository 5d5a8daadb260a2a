-- What is known of the configuration that a walk of small steps came to.
use Rattle.std.specs.Prelude.{◌≡◌, ℕ, ◌<◌, ◌≤◌, List, ℤ, Option}
use Rattle.imp.specs.Syntax.{Com, Plain}
use Rattle.imp.specs.Syntax.Com.{skip}
use Rattle.imp.specs.Small.{Steps}
use Rattle.imp.specs.Large.{EvalC, steps_c}
use Rattle.imp.specs.Stuck.{Cause, Stuck}
use Rattle.stepping.specs.Exact.{exact}
use Rattle.stepping.specs.Steps.{bound, writable}
use Rattle.walk.specs.declared.outcome.Outcome.{Outcome}
use Rattle.walk.specs.declared.outcome.Outcome.TheVariants.{Ended, Stuck as Blocked, Unfinished}

module _ (c : Com) (before : List (Option ℤ)) (d : Com) (after : List (Option ℤ)) where
  -- so many small steps lead from the first configuration to the second
  abbrev pub Walked : ℕ → Type 0
  Walked n = Steps exact (writable before) n c (bound before) d (bound after)

  -- the walk is at its end, and if it began at a program, there is a derivation, which counts as many steps
  pub record AtEnd (n : ℕ) : Type 0 where
    pub walked : Walked n
    pub end : d ≡ skip
    pub derived : Plain c → (e : EvalC exact (writable before) c (bound before) (bound after)) × (steps_c exact (writable before) e ≡ n)

  -- the walk is stuck, for this cause
  pub record AtStuck (n : ℕ) : Type 0 where
    pub walked : Walked n
    pub cause : Cause
    pub stuck : Stuck exact (writable before) cause d (bound after)

  -- the walk has taken so many steps, and is not at its end
  pub record Underway (n : ℕ) : Type 0 where
    pub walked : Walked n
    pub unended : d ≡ skip → ⊥

  -- what each outcome says of a walk that is allowed so many steps
  abbrev pub ComesTo : ℕ → Outcome → Type 0
  ComesTo limit (Ended n) = (n ≤ limit) × AtEnd n
  ComesTo limit (Blocked n) = (n < limit) × AtStuck n
  ComesTo limit (Unfinished n) = (n ≡ limit) × Underway n
