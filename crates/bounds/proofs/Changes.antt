-- The laws for changes and the byte sum at their bounds: ranges that touch and end where the body ends, equal ranges, the last word ahead
-- of the check.
use Prim.Native.Nat.{ℕ}
use mathlib.Core.Path.{◌≡◌, refl, sym, ap, ◌∙◌}
use mathlib.Core.Logic.{◌≢◌, inl}
use mathlib.Core.Bool.{true, false}
use mathlib.Core.List.{List, [], ◌∷◌}
use native.Mathlib.Omega.{arith}
use lib.Dec.{eqb→eq}
use lib.ListN.{length, replicate, length-replicate}
use Rattle.model.specs.Bytes.{byte_at}
use Rattle.model.specs.Checksum.{image_sealed}
use Rattle.model.specs.Change.{zero_body}
use Rattle.model.specs.AbstractLog.{Logged, replay_on}
use Rattle.model.specs.ChangeLaws.{put_on, slide_on, InBody}
use Rattle.model.specs.Detection.{with_word, ImageError}
use Rattle.cases.specs.Opened.{opened}
use Rattle.cases.specs.Build.{small, image}
use Rattle.laws.proofs.Replays.{change-laws}
use Rattle.laws.proofs.Detection.{detection}
use Rattle.cases.proofs.Tests.{holds}

-- ---- changes

-- one byte at 199, and 44 at 200: they end with the body
abbrev one : Logged
one = put_on 1 199 1 (5 ∷ [])

abbrev rest : Logged
rest = put_on 1 200 44 (replicate 44 6)

abbrev elsewhere : Logged
elsewhere = slide_on 2 0 1 (9 ∷ [])

body-size : length zero_body ≡ 244
body-size = length-replicate {A = ℕ} 244 0

one-fits : InBody 199 1 (5 ∷ [])
one-fits = record { room = omega arith; payload = omega arith }

rest-fits : InBody 200 44 (replicate 44 6)
rest-fits = record { room = omega arith; payload = omega (arith, length-replicate {A = ℕ} 44 6) }

other-page : ◌≢◌ {A = ℕ} 2 1
other-page e = omega (arith, e)

pub touching-puts : (q : ℕ) → replay_on q (one ∷ elsewhere ∷ rest ∷ []) zero_body ≡ replay_on q (rest ∷ elsewhere ∷ one ∷ []) zero_body
touching-puts q =
    change-laws.apart q 1 199 1 200 44 (5 ∷ []) (replicate 44 6) zero_body (elsewhere ∷ []) [] body-size one-fits rest-fits
    (inl (omega arith)) (other-page, tt)

pub equal-ranges : (q : ℕ) → replay_on q (rest ∷ elsewhere ∷ rest ∷ []) zero_body ≡ replay_on q (elsewhere ∷ rest ∷ []) zero_body
equal-ranges q =
    change-laws.covered q 1 200 44 200 44 (replicate 44 6) (replicate 44 6) zero_body (elsewhere ∷ []) [] body-size rest-fits
    (record { from = omega arith; to = omega arith }) (other-page, tt)

pub slide-behind-put : (q : ℕ)
    → replay_on q (one ∷ slide_on 1 200 44 (replicate 44 6) ∷ []) zero_body ≡ replay_on q (slide_on 1 200 44 (replicate 44 6) ∷ one ∷ []) zero_body
slide-behind-put q =
    change-laws.ahead q 1 199 1 200 44 (5 ∷ []) (replicate 44 6) zero_body [] [] body-size one-fits rest-fits (omega arith) tt

-- ---- the byte sum

abbrev whole : List ℕ
whole = image 1 1 (replicate 244 7)

whole-size : length whole ≡ 256
unfolding opened
whole-size = eqb→eq (length whole) 256 tt

sum-right : image_sealed small whole ≡ true
unfolding opened
sum-right = holds (image_sealed small whole) tt

byte-250 : byte_at whole 250 ≡ 7
unfolding opened
byte-250 = eqb→eq (byte_at whole 250) 7 tt

byte-251 : byte_at whole 251 ≡ 7
unfolding opened
byte-251 = eqb→eq (byte_at whole 251) 7 tt

byte-after : byte_at (with_word whole 250 0xFF 7) 250 ≡ 0xFF
unfolding opened
byte-after = eqb→eq (byte_at (with_word whole 250 0xFF 7) 250) 0xFF tt

-- the last two bytes ahead of the check, of which one is another
last-error : ImageError small whole 250 0xFF 7
last-error =
    record {
      tag = refl;
      size = whole-size;
      right = sum-right;
      error =
          record {
            size = omega (arith, whole-size);
            ahead = omega arith;
            was_bytes = (omega (arith, byte-250), omega (arith, byte-251));
            are_bytes = (omega arith, omega arith);
            changed = λ e. omega (arith, sym byte-after ∙ (ap (λ y. byte_at y 250) e ∙ byte-250));
          };
    }

pub last_word : image_sealed small (with_word whole 250 0xFF 7) ≡ false
last_word = detection.image small whole 250 0xFF 7 last-error

-- one further, into the check, nothing is claimed
pub into-the-check : (u w : ℕ) → ImageError small whole 251 u w → ⊥
into-the-check u w e = omega (arith, e.error.ahead)
