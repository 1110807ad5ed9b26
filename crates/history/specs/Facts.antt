-- Facts of every legal history, beside demands 2 and 3: which refusals never come, that the state is well formed, that
-- every image that was stored is a replay, and what the index says. Their values are in proofs/.
use Rattle.std.specs.Prelude.{ℕ, ◌≤◌, ◌≡◌, ◌≢◌, true, false, List, ◌++◌, length, take}
use Rattle.model.specs.Geometry.{Place, page_at, slot_at, geometry_of, item}
use Rattle.model.specs.Item.{image_page, image_lsn, image_body, valid_image, frame_image}
use Rattle.model.specs.Index.{entry_of}
use Rattle.model.specs.Scan.{index_of}
use Rattle.model.specs.State.{frame_count, valid_memory, frame_bytes, holder, held, well_formed}
use Rattle.model.specs.Refusals.{frame_blocked}
use Rattle.model.specs.Outcome.{Outcome, volume_after, refusal_of}
use Rattle.model.specs.Calls.{Call, outcome_of, load_of, release_of}
use Rattle.model.specs.Restart.{restart_of}
use Rattle.model.specs.AbstractLog.{Logged, last_place, replay}
use Rattle.model.specs.Passes.{is_image}
use Rattle.model.specs.History.{on, stored_before}
use Rattle.model.specs.Carry.{carries}
use Rattle.model.specs.Claim.{History, Legal, reached, log_of, durable_of, inspection, Gone, Proviso}
use Rattle.model.specs.declared.{geometry.Geometry.Geometry, state.State.State}

abbrev pub volume_of : History → List ℕ
volume_of h = (reached h).volume

abbrev pub heading_of : History → Geometry
heading_of h = geometry_of (volume_of h)

-- ---- the live machine and its answers

-- memory and state are as every call asks
pub record Sound (h : History) (m : List ℕ) (s : State) : Type 0 where
  pub memory : valid_memory (length m) ≡ true
  pub state : well_formed (heading_of h) (frame_count (length m)) s ≡ true

-- an answer that blames neither volume, memory, state, log, notes nor chain
pub record Ordinary (refusal : ℕ) : Type 0 where
  pub not-volume : refusal ≢ 1
  pub not-state : refusal ≢ 2
  pub not-log : refusal ≢ 17
  pub not-notes : refusal ≢ 18
  pub not-chain : refusal ≢ 19

-- a Restart is refused for the memory's size alone
pub record Restarts (h : History) (m : List ℕ) : Type 0 where
  pub right : valid_memory (length m) ≡ true → refusal_of (restart_of (volume_of h) m).answer ≡ 0
  pub wrong : valid_memory (length m) ≡ false → refusal_of (restart_of (volume_of h) m).answer ≡ 2

-- an inspection is refused for the buffer's size, for a page out of range, for a blank one, or 23: the walk went below
-- the run and found no start (exactly when: `RingClaim.inspects`)
pub record Answers (h : History) (p : ℕ) (buffer : List ℕ) : Type 0 where
  pub right : length buffer ≡ 256 → Ordinary (inspection h p buffer)
  pub wrong : length buffer ≢ 256 → inspection h p buffer ≡ 2

-- ---- images

-- the image is page p's replay at one of the page's durable changes
pub record IsReplay (p : ℕ) (durable : List Logged) (x : List ℕ) : Type 0 where
  pub low : 1 ≤ image_lsn x
  pub high : image_lsn x ≤ length durable
  pub place : last_place p (take (image_lsn x) durable) ≡ image_lsn x
  pub body : image_body x ≡ replay p (take (image_lsn x) durable)

-- an image that a call stored is some page's; under a heading that came later it need not be valid
pub record StoredImage (h : History) (x : List ℕ) : Type 0 where
  pub page : ℕ
  pub low : 1 ≤ page
  pub high : page ≤ h.pages
  pub number : image_page x ≡ page
  pub is-replay : IsReplay page (durable_of h) x

-- a page's own image: where it is valid it is a replay, and no newer than the page's last durable change; so its class
-- is never Ahead
pub record OwnImage (h : History) (p : ℕ) : Type 0 where
  pub is-replay : valid_image (heading_of h) p (item (heading_of h) (volume_of h) (page_at p)) ≡ true
      → IsReplay p (durable_of h) (item (heading_of h) (volume_of h) (page_at p))
  pub not-above : valid_image (heading_of h) p (item (heading_of h) (volume_of h) (page_at p)) ≡ true
      → image_lsn (item (heading_of h) (volume_of h) (page_at p)) ≤ (entry_of (index_of (heading_of h) (volume_of h)) p).durable

-- ---- the index

-- what the volume's log and notes say of page p, and the image that they name as its backup
pub record IndexEntry (h : History) (p : ℕ) : Type 0 where
  pub durable : (entry_of (index_of (heading_of h) (volume_of h)) p).durable ≡ last_place p (durable_of h)
  pub backup : (entry_of (index_of (heading_of h) (volume_of h)) p).slot ≢ 0
      → valid_image (heading_of h) p
      (item (heading_of h) (volume_of h) (slot_at (entry_of (index_of (heading_of h) (volume_of h)) p).slot)) ≡ true
      → IsReplay p (durable_of h)
      (item (heading_of h) (volume_of h) (slot_at (entry_of (index_of (heading_of h) (volume_of h)) p).slot))

-- the live state says of page p what the volume says
pub record SameEntry (h : History) (s : State) (p : ℕ) : Type 0 where
  pub durable : (entry_of s.index p).durable ≡ (entry_of (index_of (heading_of h) (volume_of h)) p).durable
  pub written : (entry_of s.index p).written ≡ (entry_of (index_of (heading_of h) (volume_of h)) p).written
  pub slot : (entry_of s.index p).slot ≡ (entry_of (index_of (heading_of h) (volume_of h)) p).slot
  pub backup : (entry_of s.index p).backup ≡ (entry_of (index_of (heading_of h) (volume_of h)) p).backup

-- ---- the live machine and the abstract log

-- the counts are those of the two lists
pub record Counts (h : History) (s : State) : Type 0 where
  pub durable : s.durable ≡ length (durable_of h)
  pub pending : s.pending ≡ length (log_of h).pending
  pub few : length (log_of h).pending ≤ 16

-- of page p, over the durable and the pending changes: its last number; and a frame that holds it holds its replay,
-- check bytes zero
pub record LivePage (h : History) (m : List ℕ) (s : State) (p : ℕ) : Type 0 where
  pub last : (entry_of s.index p).last ≡ last_place p (durable_of h ++ (log_of h).pending)
  pub frame : held s p ≡ true
      → frame_bytes m (holder s p)
      ≡ frame_image p (last_place p (durable_of h ++ (log_of h).pending)) (replay p (durable_of h ++ (log_of h).pending))

-- ---- a page that leaves its frame (document 02, §5)

-- Release, of a page in a frame: it goes exactly if all the page's changes are durable, and is 10 otherwise; then the
-- page is in no frame
pub record Releases (h : History) (m : List ℕ) (s : State) (p : ℕ) : Type 0 where
  pub free : last_place p (durable_of h ++ (log_of h).pending) ≡ last_place p (durable_of h)
      → refusal_of (release_of (volume_of h) m s p).answer ≡ 0
  pub blocked : last_place p (durable_of h ++ (log_of h).pending) ≢ last_place p (durable_of h)
      → refusal_of (release_of (volume_of h) m s p).answer ≡ 10
  pub gone : refusal_of (release_of (volume_of h) m s p).answer ≡ 0
      → held (release_of (volume_of h) m s p).state p ≡ false

-- the refusal of a Load of page p into frame f, in the machine that the call leaves
abbrev pub reload : History → List ℕ → State → Call → ℕ → ℕ → Outcome
reload h m s c p f =
    load_of (volume_of h) (outcome_of c (volume_of h) m s).memory (outcome_of c (volume_of h) m s).state p f

-- "A user who opens that page must see the same text either way". A call took page p out of its frame: Release, or a
-- Load or a Begin into that frame. The volume is as it was, and so is every inspection. A Load of the page into any
-- frame, where it is not refused, gives the 256 bytes that the frame had. It is refused for its frame alone, or 23; and
-- 23 only where record 1 has left and the page's proviso fails.
pub record Evicted (h : History) (m : List ℕ) (s : State) (c : Call) (p : ℕ) : Type 0 where
  pub volume : volume_after (volume_of h) (outcome_of c (volume_of h) m s).stored ≡ volume_of h
  pub text : (f : ℕ) → refusal_of (reload h m s c p f).answer ≡ 0
      → frame_bytes (reload h m s c p f).memory f ≡ frame_bytes m (holder s p)
  pub opens : (f : ℕ) → 1 ≤ f → f ≤ frame_count (length (outcome_of c (volume_of h) m s).memory)
      → frame_blocked (outcome_of c (volume_of h) m s).state f ≡ false
      → (Gone h → Proviso h p) → refusal_of (reload h m s c p f).answer ≡ 0
  pub below : (f : ℕ) → refusal_of (reload h m s c p f).answer ≡ 23 → Gone h × (Proviso h p → ⊥)

-- ---- all of them

pub record Facts : Type 0 where
  pub sound : (h : History) → Legal h → (m : List ℕ) (s : State) → (reached h).power ≡ on m s → Sound h m s
  -- but for the calls that carry a volume over, whose 1 is of the heading: `Carry.OnlyHeading`
  pub calls : (h : History) → Legal h → (m : List ℕ) (s : State) → (reached h).power ≡ on m s
      → (c : Call) → carries c ≡ false
      → Ordinary (refusal_of (outcome_of c (volume_of h) m s).answer)
  pub restarts : (h : History) → Legal h → (m : List ℕ) → Restarts h m
  pub answers : (h : History) → Legal h → (p : ℕ) (buffer : List ℕ) → Answers h p buffer
  pub stored : (h : History) → Legal h → (at : Place) (x : List ℕ) → is_image (heading_of h) at ≡ true
      → stored_before at x (reached h).past ≡ true → StoredImage h x
  pub own : (h : History) → Legal h → (p : ℕ) → 1 ≤ p → p ≤ h.pages → OwnImage h p
  pub noted : (h : History) → Legal h → (p : ℕ) → 1 ≤ p → p ≤ h.pages → IndexEntry h p
  pub entries : (h : History) → Legal h → (m : List ℕ) (s : State) → (reached h).power ≡ on m s
      → (p : ℕ) → 1 ≤ p → p ≤ h.pages → SameEntry h s p
  pub counts : (h : History) → Legal h → (m : List ℕ) (s : State) → (reached h).power ≡ on m s → Counts h s
  pub live : (h : History) → Legal h → (m : List ℕ) (s : State) → (reached h).power ≡ on m s
      → (p : ℕ) → 1 ≤ p → p ≤ h.pages → LivePage h m s p
  pub releases : (h : History) → Legal h → (m : List ℕ) (s : State) → (reached h).power ≡ on m s
      → (p : ℕ) → 1 ≤ p → p ≤ h.pages → held s p ≡ true → Releases h m s p
  pub evicts : (h : History) → Legal h → (m : List ℕ) (s : State) → (reached h).power ≡ on m s
      → (c : Call) (p : ℕ) → 1 ≤ p → p ≤ h.pages
      → held s p ≡ true → held (outcome_of c (volume_of h) m s).state p ≡ false → Evicted h m s c p
  -- no two pages share a slot
  pub slots : (h : History) → Legal h → (p q : ℕ) → 1 ≤ p → p ≤ h.pages → 1 ≤ q → q ≤ h.pages
      → (entry_of (index_of (heading_of h) (volume_of h)) p).slot ≢ 0
      → (entry_of (index_of (heading_of h) (volume_of h)) p).slot ≡ (entry_of (index_of (heading_of h) (volume_of h)) q).slot
      → p ≡ q
  -- a page with a durable change is never refused 7
  pub loads : (h : History) → Legal h → (m : List ℕ) (s : State) → (reached h).power ≡ on m s
      → (p f : ℕ) → last_place p (durable_of h) ≢ 0
      → refusal_of (load_of (volume_of h) m s p f).answer ≢ 7
  pub inspects : (h : History) → Legal h → (p : ℕ) (buffer : List ℕ) → last_place p (durable_of h) ≢ 0
      → inspection h p buffer ≢ 7
