-- A law of tests that are joined.
use mathlib.Core.Path.{◌≡◌, refl}
use mathlib.Core.Bool.{Bool, true, false, ◌&&◌}

-- what follows a test of the page's range may stand for anything where the page is out of range
pub guarded : (a b c t u : Bool) → (c ≡ true → t ≡ u) → (a && (b && (c && t))) ≡ (a && (b && (c && u)))
guarded a b true t u h = rw (h refl)
guarded a b false t u h = refl
