-- Commands one after another, joined by semicolons, and their runs.
use Rattle.std.specs.Prelude.{◌≡◌, ℕ, ◌+◌, List, [], ◌∷◌}
use Rattle.imp.specs.Bindings.{Bindings, Arithmetic, Writable}
use Rattle.imp.specs.Syntax.{Com}
use Rattle.imp.specs.Syntax.Com.{skip, seq}
use Rattle.imp.specs.Small.{Steps}

-- the commands in order, nested to the right; joining none is skip
abbrev pub joined : List Com → Com
joined [] = skip
joined (c ∷ []) = c
joined (c ∷ d ∷ cs) = seq c (joined (d ∷ cs))

-- runs to skip, each from the bindings that the one before it left, and the sum of their steps
pub data Runs (A : Arithmetic) (w : Writable) : List Com → Bindings → Bindings → ℕ → Type 0 where
  stop : {σ : Bindings} → Runs A w [] σ σ 0
  run : {c : Com} {cs : List Com} {σ τ υ : Bindings} {m n k : ℕ} → Steps A w m c σ skip τ → Runs A w cs τ υ n → k ≡ m + n → Runs A w (c ∷ cs) σ υ k
