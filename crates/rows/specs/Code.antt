-- Codes: the numbers that stand for kinds and rules.
use Rattle.std.specs.Prelude.{◌≡◌, ℕ, List, ◌++◌, Option, Result, IfErr, codes, decimal}
use Rattle.std.specs.Result.{result_ok}
use Rattle.rows.specs.declared.code.UnknownCode.{UnknownCode}

-- the result is what the code stands for, or an error with the code, where it stands for nothing
abbrev pub Decodes : {T : Type 0} → (ℕ → Option T) → ℕ → Result T UnknownCode → Type 0
Decodes meaning code result = (result_ok result ≡ meaning code) × IfErr result (λ e. e.0 ≡ code)

-- what a code that stands for nothing is told as
abbrev pub unknown_code_text : ℕ → List ℕ
unknown_code_text code = codes "nothing has the code " ++ decimal code
