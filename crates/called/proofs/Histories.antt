-- From an exported function's contract to the history, by `histories-for-c` and by demand 2. The equations that each law takes
-- are what the function ensures, word for word: `capi::volumes::pagestore_make` (and `pagestore_make_first`),
-- `pagestore_restart`, the functions of `capi::calls` with `pagestore_begin` and `pagestore_change`, and
-- `capi::readers::pagestore_inspect`.
use Prim.Native.Nat.{ℕ}
use mathlib.Core.Path.{◌≡◌, refl, sym, ◌∙◌}
use mathlib.Core.Bool.{true}
use mathlib.Core.List.{List}
use lib.Dec.{leb}
use Rattle.laws.proofs.Tables.{when_true}
use Rattle.model.specs.Tables.{tabulate}
use Rattle.model.specs.Outcome.{refusal_of}
use Rattle.model.specs.Calls.{Call, no_payload}
use Rattle.model.specs.Restart.{make_of, inspect_of}
use Rattle.model.specs.History.{payload_fits}
use Rattle.model.specs.declared.geometry.Heading.{Heading}
use Rattle.model.specs.declared.change.Change as changes
use Rattle.model.specs.declared.command.Command.TheVariants.{Begin, Change}
use Rattle.face.specs.Arguments.{begin_face, payload_from}
use Rattle.face.specs.Face.{answer_number, faced, face_of, restarted, restarted_of}
use Rattle.history.proofs.Theorem.{demand2}
use Rattle.called.proofs.Theorem.{histories-for-c}
use Rattle.called.specs.Histories.{Makes, Restarts, Performs, Shows}

pub makes : (t : Heading) (found : List ℕ) (p b l n r : ℕ) (v : List ℕ) → r ≡ answer_number (make_of t found p b l n).answer
    → v ≡ (make_of t found p b l n).volume → Makes t found p b l n r v
makes t found p b l n r v e q z =
    let i = histories-for-c.make t found p b l n (sym e ∙ z) in
    (i.legal, q ∙ sym i.volume, i.power)

pub restarts : (v m xs : List ℕ) (r : ℕ) (xs' m' : List ℕ) → restarted r xs' m' ≡ restarted_of v m xs
    → Restarts v m xs (restarted r xs' m')
restarts v m xs r xs' m' e h legal q o l =
    let i = histories-for-c.restarts h legal m xs l in
    rw (e, q) (rw o at i)

pub performs : (c : Call) (v m xs report : List ℕ) (r : ℕ) (xs' report' m' v' : List ℕ)
    → faced r xs' report' m' v' ≡ face_of c v m xs report → Performs c v m xs report (faced r xs' report' m' v')
performs c v m xs report r xs' report' m' v' e h legal k l = rw e (histories-for-c.calls h legal v m xs k c report l)

-- Begin with a fill that is a byte; another one is refused (`begin_face`)
pub begins : (page frame fill : ℕ) (v m xs report : List ℕ) (r : ℕ) (xs' report' m' v' : List ℕ) → leb fill 255 ≡ true
    → faced r xs' report' m' v' ≡ begin_face page frame fill v m xs report
    → Performs (Begin page frame fill, no_payload) v m xs report (faced r xs' report' m' v')
unfolding begin_face
begins page frame fill v m xs report r xs' report' m' v' t e =
    performs (Begin page frame fill, no_payload) v m xs report r xs' report' m' v' (e ∙ when_true _ _ t)

-- the payload that `pagestore_change` hands on is one that a history takes
pub payload-fits : (page : ℕ) (c : changes.Change) (payload : List ℕ)
    → payload_fits (Change page c, payload_from payload) ≡ true
unfolding payload_from tabulate
payload-fits page c payload = refl

pub shows : (v : List ℕ) (p : ℕ) (buffer : List ℕ) (r : ℕ) (after : List ℕ) → r ≡ refusal_of (inspect_of v p buffer).answer
    → after ≡ (inspect_of v p buffer).buffer → Shows v p buffer r after
shows v p buffer r after e q h legal o low high size =
    let i = demand2.inspects h legal p low high buffer size in
    rw (e, q, o) (record { blank = i.blank; durable = i.durable; granted = i.granted; below = i.below })
