-- What an exported C function gives where what it is lent is what a legal history left: a Make, a Restart, any of the
-- eleven calls, an inspection. `Histories` of the proofs has a law for each, from the function's contract.
use Rattle.std.specs.Prelude.{ℕ, ◌≤◌, ◌≡◌, ◌≢◌, ◌⊎◌, ◌↔◌, List, ◌++◌, length}
use Rattle.model.specs.Bytes.{bytes_of, part}
use Rattle.model.specs.Calls.{Call}
use Rattle.model.specs.AbstractLog.{replay, last_place}
use Rattle.model.specs.History.{off, restart, perform, lent}
use Rattle.model.specs.Claim.{History, Legal, Gone, Proviso, reached, durable_of}
use Rattle.model.specs.declared.geometry.Heading.{Heading}
use Rattle.face.specs.Face.{Face, Restarted}
use Rattle.face.specs.Claim.{Holds, then, CallIs, RestartIs, made}

-- a Make that answers 0: a history with no event, which left this volume
abbrev pub Makes : Heading → List ℕ → ℕ → ℕ → ℕ → ℕ → ℕ → List ℕ → Type 0
Makes t found p b l n r v =
    r ≡ 0 → Legal (made t found p b l n) × (v ≡ (reached (made t found p b l n)).volume)
    × ((reached (made t found p b l n)).power ≡ off)

-- a Restart on the volume that a history left, with the machine's memory or, where it is off, with any
abbrev pub Restarts : List ℕ → List ℕ → List ℕ → Restarted → Type 0
Restarts v m xs f =
    (h : History) → Legal h → v ≡ (reached h).volume → lent (reached h).power m ≡ m → length xs ≡ 360
    → RestartIs v m f (reached (then h (restart m)))

-- a call on the volume, the memory and the numbers that a history left
abbrev pub Performs : Call → List ℕ → List ℕ → List ℕ → List ℕ → Face → Type 0
Performs c v m xs report f =
    (h : History) → Legal h → (k : Holds v m xs (reached h)) → length report ≡ 5
    → CallIs c v m k.state report f (reached (then h (perform c)))

-- an inspection of page p that answers r and leaves this buffer: demand 2 (`Claim.Inspects`)
abbrev pub ReplayIn : History → ℕ → ℕ → List ℕ → Type 0
ReplayIn h p r buffer =
    (r ≡ 0) × (part buffer 4 248 ≡ bytes_of 4 (last_place p (durable_of h)) ++ replay p (durable_of h))

pub record ShownToC (h : History) (p r : ℕ) (buffer : List ℕ) : Type 0 where
  pub blank : (r ≡ 7) ↔ (last_place p (durable_of h) ≡ 0)
  pub durable : last_place p (durable_of h) ≢ 0 → ReplayIn h p r buffer ⊎ (r ≡ 23)
  pub granted : last_place p (durable_of h) ≢ 0 → (Gone h → Proviso h p) → ReplayIn h p r buffer
  pub below : r ≡ 23 → Gone h × (Proviso h p → ⊥)

abbrev pub Shows : List ℕ → ℕ → List ℕ → ℕ → List ℕ → Type 0
Shows v p buffer r after =
    (h : History) → Legal h → v ≡ (reached h).volume → 1 ≤ p → p ≤ h.pages → length buffer ≡ 256
    → ShownToC h p r after
