-- A walk by `next` is a run of small steps.
use Rattle.std.proofs.Common.{◌≡◌, ℕ, ◌+◌, true, false, ltb, List, length, ℤ, Option, Some, sym, refl, ap, subst, subst₂, ◌∙◌}
use mathlib.Core.Path.{subst₃}
use Rattle.imp.specs.Syntax.{Com}
use Rattle.imp.specs.Syntax.Com.{skip, assign, seq, ifte, while}
use Rattle.imp.specs.Small.{StepC, Steps}
use Rattle.imp.specs.Small.Steps.{none, more}
use Rattle.imp.specs.Stuck.{Stuck}
use Rattle.imp.specs.Next.{ended, next}
use Rattle.imp.proofs.Forward.{then}
use Rattle.imp.proofs.Backward.{backward}
use Rattle.imp.proofs.Stuck.{sound, held}
use Rattle.stepping.specs.Exact.{exact}
use Rattle.stepping.specs.Steps.{bound, writable, Halted}
use Rattle.walk.specs.Walks.{Walked, AtEnd, AtStuck}

-- what a walk keeps: it came here in so many steps, and has the names that it began with
pub record Reached (c : Com) (before : List (Option ℤ)) (d : Com) (now : List (Option ℤ)) (n : ℕ) : Type 0 where
  pub same_names : length now ≡ length before
  pub walked : Walked c before d now n

is_skip : (c : Com) → true ≡ ended c → c ≡ skip
is_skip skip e = refl
is_skip (assign x a) e = cc
is_skip (seq c d) e = cc
is_skip (ifte b c d) e = cc
is_skip (while b c) e = cc

-- where it begins
pub begun : (c : Com) (before : List (Option ℤ)) → Reached c before c before 0
begun c before = record { same_names = refl; walked = none }

module _ {c d : Com} {n : ℕ} {before now : List (Option ℤ)} (here : Reached c before d now n) where
  -- lists of one length have the same names
  names : writable now ≡ writable before
  names = ap (λ m x. ltb x m) here.same_names

  -- one step more
  pub onward : {e : Com} {after : List (Option ℤ)} → length after ≡ length now → next exact (writable now) d (bound now) ≡ Some (e, bound after) → Reached c before e after (n + 1)
  onward {e} {after} long s =
      let step = sound exact (writable now) {c = d} {d = e} {σ = bound now} {τ = bound after} s in
      let last = subst (λ w. StepC exact w d (bound now) e (bound after)) names step in
      record {
        same_names = long ∙ here.same_names;
        walked = then exact (writable before) here.walked (more last none) refl;
      }

  -- at skip
  pub arrived : true ≡ ended d → AtEnd c before d now n
  arrived h =
      let e = is_skip d h in
      record {
        walked = here.walked;
        end = e;
        derived = λ p. backward exact (writable before) p (subst (λ x. Steps exact (writable before) n c (bound before) x (bound now)) e here.walked);
      }

  -- where there is no step
  pub blocked : {e : Com} {after : List (Option ℤ)} → false ≡ ended d → Halted d now e after → AtStuck c before e after n
  blocked {e} {after} h s =
      let (cause, k) = held exact (writable now) {c = d} {σ = bound now} s.no_next (λ f. cc (ap ended f)) in
      let (p, q) = s.same in
      let σ = ap bound (sym q) in
      record {
        walked = subst₂ (λ x y. Steps exact (writable before) n c (bound before) x y) (sym p) σ here.walked;
        cause = cause;
        stuck = subst₃ (λ w x y. Stuck exact w cause x y) names (sym p) σ k;
      }

-- the lemmas that a tactic applies by itself
pub ruleset walking = (begun, onward, blocked)
