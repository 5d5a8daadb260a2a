-- The programs that are walked.
use Rattle.std.specs.Prelude.{◌≡◌, ℕ, true, false, pos}
use Rattle.imp.specs.Bindings.{Bindings, Writable, bind}
use Rattle.imp.specs.Syntax.{Com}
use Rattle.imp.specs.Syntax.Op.{plus}
use Rattle.imp.specs.Syntax.Aexp.{num, name, op}
use Rattle.imp.specs.Syntax.Bexp.{lit, less, and}
use Rattle.imp.specs.Syntax.Com.{skip, assign, seq, ifte, while}
use Rattle.imp.specs.Large.{EvalC, steps_c}
use Rattle.stepping.specs.Exact.{exact}

-- foo := 3; while foo < 4 do foo := foo + 5, where foo is the name 0
abbrev pub one_round : Com
one_round = seq (assign 0 (num (pos 3))) (while (less (name 0) (num (pos 4))) (assign 0 (op plus (name 0) (num (pos 5)))))

-- wherever foo may be written, `one_round` has a derivation, which counts n steps and leaves foo at 8
abbrev pub OneRoundCounts : ℕ → Type 0
OneRoundCounts n = (w : Writable) (σ : Bindings) → w 0 ≡ true → (d : EvalC exact w one_round σ (bind (bind σ 0 (pos 3)) 0 (pos 8))) × (steps_c exact w d ≡ n)

-- if false and foo < 0 then skip else skip
abbrev pub both_sides : Com
both_sides = ifte (and (lit false) (less (name 0) (num (pos 0)))) skip skip

-- while true do skip
abbrev pub endless : Com
endless = while (lit true) skip
