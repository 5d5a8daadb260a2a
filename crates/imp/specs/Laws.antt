-- What is proved of the language.
use Rattle.std.specs.Prelude.{◌≡◌, ℕ, ◌+◌, ◌-◌, ◌≤◌, Bool, List, length, ℤ, Some, None, ◌≢◌}
use Rattle.imp.specs.Bindings.{Bindings, Arithmetic, Writable}
use Rattle.imp.specs.Syntax.{Aexp, Bexp, Com, Plain}
use Rattle.imp.specs.Syntax.Com.{skip}
use Rattle.imp.specs.Small.{StepC, Steps}
use Rattle.imp.specs.Large.{EvalA, EvalB, EvalC, steps_c}
use Rattle.imp.specs.Joined.{joined, Runs}
use Rattle.imp.specs.Stuck.{Cause, Stuck}
use Rattle.imp.specs.Next.{next}

-- over every arithmetic and whichever names may be written
abbrev pub Always : (Arithmetic → Writable → Type 0) → Type 0
Always Law = (A : Arithmetic) (w : Writable) → Law A w

-- Large steps and small steps say the same, to the unit.
pub record DerivationsAreRuns (A : Arithmetic) (w : Writable) : Type 0 where
  -- a derivation is a run to skip of as many small steps as it counts
  pub run : (c : Com) (σ τ : Bindings) (d : EvalC A w c σ τ) → Steps A w (steps_c A w d) c σ skip τ
  -- and every run of a program to skip is a derivation of that count
  pub derivation : (c : Com) (σ τ : Bindings) (n : ℕ) → Plain c → Steps A w n c σ skip τ → (d : EvalC A w c σ τ) × (steps_c A w d ≡ n)

-- From given bindings there is at most one end and one derivation, so whatever is told of a derivation is unique too.
-- (`IsProp` says that any two are equal.)
pub record OneDerivation (A : Arithmetic) (w : Writable) : Type 0 where
  -- an expression has at most one number and one derivation of it
  pub of_expression : (a : Aexp) (σ : Bindings) → IsProp ((v : ℤ) × EvalA A σ a v)
  -- a test at most one truth value
  pub of_test : (b : Bexp) (σ : Bindings) → IsProp ((t : Bool) × EvalB A σ b t)
  -- a command at most one end
  pub of_command : (c : Com) (σ : Bindings) → IsProp ((τ : Bindings) × EvalC A w c σ τ)
  -- so two derivations have the same end
  pub end : (c : Com) (σ τ υ : Bindings) → EvalC A w c σ τ → EvalC A w c σ υ → τ ≡ υ
  -- to one end, the same derivation
  pub derivation : (c : Com) (σ τ : Bindings) (d e : EvalC A w c σ τ) → d ≡ e
  -- the same count
  pub count : (c : Com) (σ τ υ : Bindings) (d : EvalC A w c σ τ) (e : EvalC A w c σ υ) → steps_c A w d ≡ steps_c A w e

-- Small steps leave no choice.
pub record OneWay (A : Arithmetic) (w : Writable) : Type 0 where
  -- a configuration has at most one next
  pub one_next : (c d e : Com) (σ τ υ : Bindings) → StepC A w c σ d τ → StepC A w c σ e υ → (d ≡ e) × (τ ≡ υ)
  -- and skip has none
  pub skip_rests : (c : Com) (σ τ : Bindings) → StepC A w skip σ c τ → ⊥
  -- after m steps there is one configuration
  pub after : (m : ℕ) (c d e : Com) (σ τ υ : Bindings) → Steps A w m c σ d τ → Steps A w m c σ e υ → (d ≡ e) × (τ ≡ υ)
  -- n steps go through a configuration after each m of them
  pub through : (m n : ℕ) (c e : Com) (σ υ : Bindings) → m ≤ n → Steps A w n c σ e υ → (d : Com) × (τ : Bindings) × Steps A w m c σ d τ × Steps A w (n - m) d τ e υ
  -- and a run ends after one number of steps, in one way
  pub one_end : (m n : ℕ) (c : Com) (σ τ υ : Bindings) → Steps A w m c σ skip τ → Steps A w n c σ skip υ → (m ≡ n) × (τ ≡ υ)

-- Runs one after another are the run of their commands joined, with one step more for each joining semicolon.
pub record JoinedRuns (A : Arithmetic) (w : Writable) : Type 0 where
  -- the steps of the runs add up
  pub join : (cs : List Com) (σ τ : Bindings) (n : ℕ) → Runs A w cs σ τ n → Steps A w (n + (length cs - 1)) (joined cs) σ skip τ
  -- and a joined run is made of such runs
  pub part : (cs : List Com) (σ τ : Bindings) (m : ℕ) → Steps A w m (joined cs) σ skip τ → (n : ℕ) × Runs A w cs σ τ n × (m ≡ n + (length cs - 1))

-- The function `next` decides whether there is a next configuration, and gives it.
pub record NextDecides (A : Arithmetic) (w : Writable) : Type 0 where
  -- what it gives is the step
  pub sound : (c d : Com) (σ τ : Bindings) → next A w c σ ≡ Some (d, τ) → StepC A w c σ d τ
  -- and every step is what it gives
  pub complete : (c d : Com) (σ τ : Bindings) → StepC A w c σ d τ → next A w c σ ≡ Some (d, τ)
  -- a configuration that is not skip and has no next is stuck
  pub stuck : (c : Com) (σ : Bindings) → next A w c σ ≡ None → (c ≢ skip) → (e : Cause) × Stuck A w e c σ
  -- and only such a one is
  pub rests : (e : Cause) (c : Com) (σ : Bindings) → Stuck A w e c σ → (next A w c σ ≡ None) × (c ≢ skip)
  -- for one cause
  pub one_cause : (e f : Cause) (c : Com) (σ : Bindings) → Stuck A w e c σ → Stuck A w f c σ → e ≡ f
  -- and what comes to be stuck never ends
  pub never_ends : (m n : ℕ) (e : Cause) (c d : Com) (σ τ υ : Bindings) → Steps A w m c σ d τ → Stuck A w e d τ → Steps A w n c σ skip υ → ⊥
