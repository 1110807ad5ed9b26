-- Laws for changes: what may be reordered and joined in a list of changes. Their values are in `laws`, proofs/Replays;
-- the cases that show why each hypothesis stands are in `cases`, specs/Orders.
use Rattle.std.specs.Prelude.{ℕ, ◌+◌, ◌≤◌, length}
use mathlib.Core.{Path.◌≡◌, Logic.◌≢◌, Logic.◌⊎◌, Bool.true, List.List, List.[], List.◌∷◌, List.◌++◌}
use Rattle.model.specs.Change.{fits, length_of}
use Rattle.model.specs.Repair.{replay_chain}
use Rattle.model.specs.AbstractLog.{Logged, replay_on, last_place_from}
use Rattle.model.specs.Types.{Put, Slide}

-- ---- the words of the laws

-- a put of n of the bytes at offset o of page p, and a slide
abbrev pub put_on : ℕ → ℕ → ℕ → List ℕ → Logged
put_on p o n bytes = record { page = p; change = Put o n; bytes = bytes }

abbrev pub slide_on : ℕ → ℕ → ℕ → List ℕ → Logged
slide_on p o n bytes = record { page = p; change = Slide o n; bytes = bytes }

-- n bytes at offset o have room in a body and are at hand
pub record InBody (o n : ℕ) (bytes : List ℕ) : Type 0 where
  pub room : o + n ≤ 244
  pub payload : n ≤ length bytes

-- two ranges do not overlap: one ends where the other starts, or before
abbrev pub Apart : ℕ → ℕ → ℕ → ℕ → Type 0
Apart o n o' n' = (o + n ≤ o') ⊎ (o' + n' ≤ o)

-- the range of n' at o' covers that of n at o
pub record Covers (o n o' n' : ℕ) : Type 0 where
  pub from : o' ≤ o
  pub to : o + n ≤ o' + n'

-- changes of other pages than p
abbrev pub Elsewhere : ℕ → List Logged → Type 0
Elsewhere p [] = Unit {0}
Elsewhere p (c ∷ cs) = (c.page ≢ p) × Elsewhere p cs

-- changes that obey the rule, with their bytes
abbrev pub AllFit : List Logged → Type 0
AllFit [] = Unit {0}
AllFit (c ∷ cs) = ((fits c.change ≡ true) × (length_of c.change ≤ length c.bytes)) × AllFit cs

-- ---- the laws, for every page q that is replayed and any list behind

pub record ChangeLaws : Type 0 where
  -- "replaying two lists after one another is replaying them joined": any lists, any body
  pub joined : (q : ℕ) (xs ys : List Logged) (body : List ℕ)
      → replay_on q (xs ++ ys) body ≡ replay_on q ys (replay_on q xs body)
  -- the same of stored records, which a chain holds newest first
  pub chains : (log : ℕ → List ℕ) (ns ms body : List ℕ)
      → replay_chain log (ns ++ ms) body ≡ replay_chain log ns (replay_chain log ms body)
  -- "page log numbers follow the last change": behind the changes xs the page's number is counted on
  pub number : (n found q : ℕ) (xs ys : List Logged)
      → last_place_from n found q (xs ++ ys) ≡ last_place_from (n + length xs) (last_place_from n found q xs) q ys
  -- a body keeps its 244 bytes, so that with `joined` each law below holds behind any beginning too
  pub size : (q : ℕ) (xs : List Logged) (body : List ℕ) → AllFit xs → length body ≡ 244
      → length (replay_on q xs body) ≡ 244
  -- changes of two pages change places, whatever they are
  pub pages : (q : ℕ) (c d : Logged) (rest : List Logged) (body : List ℕ) → c.page ≢ d.page
      → replay_on q (c ∷ d ∷ rest) body ≡ replay_on q (d ∷ c ∷ rest) body
  -- "two puts, one directly after the other, on ranges that don't overlap may change places"; only other pages' changes
  -- stand between
  pub apart : (q p o n o' n' : ℕ) (bs cs body : List ℕ) (between rest : List Logged) → length body ≡ 244
      → InBody o n bs → InBody o' n' cs → Apart o n o' n' → Elsewhere p between
      → replay_on q (put_on p o n bs ∷ (between ++ (put_on p o' n' cs ∷ rest))) body
      ≡ replay_on q (put_on p o' n' cs ∷ (between ++ (put_on p o n bs ∷ rest))) body
  -- "a put covering the put directly before it makes that one needless"; only other pages' changes stand between. The
  -- covered put is in the body; of the one that covers it nothing more is asked
  pub covered : (q p o n o' n' : ℕ) (bs cs body : List ℕ) (between rest : List Logged) → length body ≡ 244
      → InBody o n bs → Covers o n o' n' → Elsewhere p between
      → replay_on q (put_on p o n bs ∷ (between ++ (put_on p o' n' cs ∷ rest))) body
      ≡ replay_on q (between ++ (put_on p o' n' cs ∷ rest)) body
  -- a put that ends where a slide starts, or before, changes places with it (the slide moves nothing there); a put
  -- behind a slide does not
  pub ahead : (q p o n o' n' : ℕ) (bs cs body : List ℕ) (between rest : List Logged) → length body ≡ 244
      → InBody o n bs → InBody o' n' cs → o + n ≤ o' → Elsewhere p between
      → replay_on q (put_on p o n bs ∷ (between ++ (slide_on p o' n' cs ∷ rest))) body
      ≡ replay_on q (slide_on p o' n' cs ∷ (between ++ (put_on p o n bs ∷ rest))) body
