-- The claims for C beside that of histories (`face`: Claim): what a call leaves alone, whatever the bytes and numbers
-- that it is lent.
use Rattle.std.specs.Prelude.{ℕ, ◌+◌, ◌≤◌, ◌<◌, ◌≡◌, ◌≢◌, ◌⊎◌, Bool, true, ◌||◌, List, leb, ltb, get_or}
use Rattle.model.specs.Geometry.{geometry_of}
use Rattle.model.specs.Calls.{Call, outcome_of, number_of, is_call}
use Rattle.face.specs.Numbers.{state_of}
use Rattle.face.specs.Face.{told_range, faced, face_of}

-- a refusal leaves state, report, memory and volume
abbrev pub RefusalsLeave : Type 0
RefusalsLeave =
    (c : Call) (v m xs report : List ℕ) → (face_of c v m xs report).answer ≢ 0 → (face_of c v m xs report).answer ≢ 256
    → face_of c v m xs report ≡ faced (face_of c v m xs report).answer xs report m v

-- a byte outside of the range that the report of a call that is done tells
abbrev pub Outside : Call → List ℕ → List ℕ → List ℕ → ℕ → Type 0
Outside c v m xs i =
    let x = told_range (geometry_of v) (outcome_of c v m (state_of xs)).stored in
    (i < x.0) ⊎ (x.0 + x.1 ≤ i)

-- is as it was
abbrev pub OutsideUnchanged : Type 0
OutsideUnchanged =
    (c : Call) (v m xs report : List ℕ) (i : ℕ) → Outside c v m xs i
    → get_or (face_of c v m xs report).volume i 0 ≡ get_or v i 0

-- ---- what is const in `include/pagestore.h`

-- only Begin, Load and Change change the memory
abbrev pub memory_const : Call → Bool
memory_const c = ltb 5 (number_of c.0)

-- they and Release leave the volume
abbrev pub volume_const : Call → Bool
volume_const c = leb (number_of c.0) 5 || is_call 17 c

pub record ConstUnchanged : Type 0 where
  pub memory : (c : Call) (v m xs report : List ℕ) → memory_const c ≡ true → (face_of c v m xs report).memory ≡ m
  pub volume : (c : Call) (v m xs report : List ℕ) → volume_const c ≡ true → (face_of c v m xs report).volume ≡ v
