-- Bytes that are texts.
use Rattle.std.specs.Prelude.{Bool, true, false}
use Rattle.std.proofs.Common.{◌≡◌, ℕ, List, refl}
use Rattle.std.specs.Str.{IsUtf8, is_utf8}
use Rattle.std.proofs.lemmas.Str.{IsUtf8-from_is_utf8, is_utf8-from_IsUtf8}

pub utf8_true : {bytes : List ℕ} → IsUtf8 bytes → is_utf8 bytes ≡ true
utf8_true {bytes} is = is_utf8-from_IsUtf8 bytes is

pub utf8_false : {bytes : List ℕ} → ¬ (IsUtf8 bytes) → is_utf8 bytes ≡ false
utf8_false {bytes} none = elim (is_utf8 bytes) as (λ b. is_utf8 bytes ≡ b → b ≡ false)
    [ true ↦ λ e. absurd (none (IsUtf8-from_is_utf8 bytes e)) | false ↦ λ e. refl ] refl
