-- Rows on carrying a volume over: what the three calls answer and store, which images they take, what each heading
-- judges by, and the log while and after.
use Rattle.std.specs.Prelude.{ℕ, List, [], ◌∷◌, ◌++◌, map, replicate, take}
use Rattle.model.specs.Bytes.{all_zero}
use Rattle.model.specs.Geometry.{tag_of, carry_tag, Place, page_at, slot_at, geometry_of, valid_volume, item}
use Rattle.model.specs.Item.{valid_image}
use Rattle.model.specs.Passes.{by_words, by_byte_sum}
use Rattle.model.specs.State.{zero_state}
use Rattle.model.specs.Outcome.{new_heading}
use Rattle.model.specs.Calls.{start_carry_of, restamp_of, finish_carry_of, Call}
use Rattle.cases.specs.Calls.{begin, change, force, write, backup, note, start_carry, restamp, finish_carry}
use Rattle.model.specs.History.{Power, off, on, Machine, Event, restart, perform, damage, run}
use Rattle.model.specs.Carry.{old_count}
use Rattle.model.specs.declared.{geometry.Heading.Heading, change.Change.TheVariants.Put, state.Entry.Entry}
use Rattle.model.specs.declared.state.Frame.{Frame}
use Rattle.model.specs.declared.geometry.Heading.TheVariants.{First, Second}
use Rattle.model.specs.declared.answer.Class.TheVariants.{Good, Failed}
use Rattle.cases.specs.Opened.{opened}
use Rattle.cases.specs.Rows.{Row, row, same}
use Rattle.cases.specs.Words.{bit, bits, numbers, from_own, from_format, refused, done, idle, yes, no}
use Rattle.cases.specs.Build.{entry_numbers, image_under, broken, stored_in, inspected, memory, reach_under, asked}
use Rattle.cases.specs.Prologues.{pages_forced, page_begun}
use Rattle.cases.specs.Table.{whole_under, own_under, body3, at3}

abbrev pub does : List Call → List Event
does cs = map perform cs

-- Pages 1 and 2 begun and durable; page 1 written and backed up in slot 1, both noted; page 2 never written. Under the
-- first heading, then carried over step by step.
abbrev pub old_volume : Machine
old_volume = reach_under First 2 2 8 8
    (pages_forced 2 ++ does (write 1 ∷ note ∷ backup 1 1 ∷ note ∷ []))

-- images of a page by words and by bytes; the bodies that were stored, and one that never was
abbrev pub word_image : ℕ → ℕ → ℕ → List ℕ
word_image p lsn fill = image_under First p lsn (replicate 244 fill)

abbrev pub byte_image : ℕ → ℕ → ℕ → List ℕ
byte_image p lsn fill = image_under Second p lsn (replicate 244 fill)

-- whether the image in a place is valid as page p's, by words and by bytes; in words: by one sum alone, or by both
abbrev pub sums : Machine → Place → ℕ → List ℕ
sums w at p =
    let g = geometry_of w.volume in
    bits (valid_image (by_words g) p (item g w.volume at) ∷ valid_image (by_byte_sum g) p (item g w.volume at) ∷ [])

abbrev pub in_words : List ℕ
in_words = yes ∷ no ∷ []

abbrev pub in_bytes : List ℕ
in_bytes = no ∷ yes ∷ []

abbrev pub in_both : List ℕ
in_both = yes ∷ yes ∷ []

-- the first four bytes of a volume with this tag
abbrev headed : ℕ → List ℕ
headed tag = 0x43 ∷ 0x48 ∷ 0x50 ∷ tag ∷ []

abbrev image_in : Machine → Place → List ℕ
image_in w at = item (geometry_of w.volume) w.volume at

abbrev left_in : Power → List ℕ → ℕ
left_in off v = 0
left_in (on m s) v = old_count v s

abbrev left : Machine → ℕ
left w = left_in w.power w.volume

-- what a call on the state leaves of memory and state
abbrev frame_numbers : List Frame → List ℕ
frame_numbers [] = []
frame_numbers (f ∷ fs) = f.page ∷ bit f.dirty ∷ frame_numbers fs

abbrev index_numbers : List Entry → List ℕ
index_numbers [] = []
index_numbers (e ∷ es) = entry_numbers e ++ index_numbers es

abbrev live_numbers : Power → List ℕ
live_numbers off = []
live_numbers (on m s) = s.durable ∷ s.pending ∷ s.notes ∷ (frame_numbers s.frames ++ (m ++ index_numbers s.index))

abbrev same_live : Machine → Machine → ℕ
same_live w x = bit (same (live_numbers w.power) (live_numbers x.power))

-- K6's records and an image of page 1 at 3, under a tag
abbrev tagged_at : ℕ → Heading → List ℕ
tagged_at tag h = stored_in (whole_under First (own_under h 3 body3 ∷ [])) (new_heading tag ∷ [])

-- a page whose image has one value by words and by bytes: 540
abbrev pub both_written : Machine
both_written =
    reach_under First 1 0 4 4
    (restart (memory 1) ∷ does (begin 1 1 0 ∷ change 1 (Put 0 9)
    (255 ∷ 0 ∷ 255 ∷ 0 ∷ 0 ∷ 0 ∷ 2 ∷ 0 ∷ 24 ∷ replicate 35 0) ∷ force ∷ force ∷ write 1 ∷ note ∷ []))

abbrev both_sums : Machine
both_sums = run both_written (does (start_carry ∷ []))

-- a log of two, full, its first record spare
abbrev full_log : Machine
full_log =
    reach_under First 1 1 2 4
    (page_begun 1 ++ does (change 1 (Put 0 1) (5 ∷ replicate 43 0) ∷ force ∷ force ∷ backup 1 1 ∷ note ∷ start_carry
    ∷ []))

abbrev put : Call
put = change 1 (Put 0 1) (6 ∷ replicate 43 0)

unfoldable pub carried_rows : List Row
unfolding opened
carried_rows =
    let carrying = run old_volume (does (start_carry ∷ [])) in
    let once = run carrying (does (restamp ∷ [])) in
    let twice = run once (does (restamp ∷ [])) in
    let over = run twice (does (finish_carry ∷ [])) in
    row "carry: 1 for a heading not its own"
    (asked old_volume start_carry
    ++ (asked old_volume restamp ++ (asked old_volume finish_carry ++ (asked carrying start_carry
    ++ (asked over start_carry ++ (asked over restamp ++ asked over finish_carry))))))
    (done ++ (refused 1 ++ (refused 1 ++ (refused 1 ++ (refused 1 ++ (refused 1 ++ refused 1))))))
    ∷ row "carry: one image a call, then Nothing; 20 until then"
    (asked carrying restamp ++ (asked carrying finish_carry ++ (asked once restamp ++ (asked once finish_carry
    ++ (asked twice restamp ++ asked twice finish_carry)))))
    (done ++ (refused 20 ++ (done ++ (refused 20 ++ (idle ++ done)))))
    ∷ row "carry: the headings"
    (take 4 old_volume.volume ++ (take 4 carrying.volume ++ take 4 over.volume))
    (headed 0x56 ++ (headed 0x43 ++ headed 0x32))
    ∷ row "carry: pages before slots"
    (sums carrying (page_at 1) 1 ++ (sums carrying (slot_at 1) 1 ++ (sums once (page_at 1) 1 ++ (sums once (slot_at 1) 1
    ++ (sums twice (page_at 1) 1 ++ sums twice (slot_at 1) 1)))))
    (in_words ++ (in_words ++ (in_bytes ++ (in_words ++ (in_bytes ++ in_bytes)))))
    ∷ row "carry: bytes 0 to 251 as they lie, the byte sum set"
    (bit (same (take 252 (image_in once (page_at 1))) (take 252 (image_in carrying (page_at 1))))
    ∷ bit (same (image_in once (page_at 1)) (byte_image 1 1 7)) ∷ [])
    (yes ∷ yes ∷ [])
    ∷ row "carry: how many are left" (left carrying ∷ left once ∷ left twice ∷ left over ∷ []) (2 ∷ 1 ∷ 0 ∷ 0 ∷ [])
    ∷ row "carry: memory and state stay"
    (same_live old_volume carrying ∷ same_live carrying once ∷ same_live once twice ∷ same_live twice over ∷ [])
    (yes ∷ yes ∷ yes ∷ yes ∷ [])
    ∷ row "carry: a failing image is passed over"
    (let failed = run old_volume (damage (page_at 1) (broken (word_image 1 1 7)) ∷ does (start_carry ∷ [])) in
    let stamped = run failed (does (restamp ∷ [])) in
    left failed ∷ (asked failed restamp
    ++ (asked stamped restamp ++ (bit (same (image_in stamped (page_at 1)) (broken (word_image 1 1 7)))
    ∷ bit (all_zero (image_in stamped (page_at 2))) ∷ sums stamped (slot_at 1) 1))))
    (1 ∷ (done ++ (idle ++ (yes ∷ yes ∷ in_bytes))))
    ∷ row "carry: a slot in the index, another page's image"
    (let other = run old_volume (damage (slot_at 1) (word_image 2 2 0xEE) ∷ does (start_carry ∷ restamp ∷ [])) in
    left other ∷ (asked other restamp ++ asked other finish_carry))
    (0 ∷ (idle ++ done))
    ∷ row "carry: slots outside the index, any page in range"
    (let moved = run old_volume (does (backup 1 2 ∷ note ∷ start_carry ∷ restamp ∷ [])) in
    let next = run moved (does (restamp ∷ [])) in
    let strange = run old_volume (damage (slot_at 2) (word_image 3 1 1) ∷ does (start_carry ∷ restamp ∷ restamp ∷ [])) in
    left moved ∷ (asked moved finish_carry
    ++ (sums next (slot_at 1) 1 ++ (sums next (slot_at 2) 1 ++ (left strange ∷ asked strange finish_carry)))))
    (2 ∷ (refused 20 ++ (in_bytes ++ (in_words ++ (0 ∷ done)))))
    ∷ row "carry: an image that passes both sums is not restamped"
    (left both_sums ∷ (sums both_sums (page_at 1) 1 ++ (asked both_sums restamp ++ asked both_sums finish_carry)))
    (0 ∷ (in_both ++ (idle ++ done)))
    ∷ row "carry: new images get the byte sum"
    (sums (run old_volume (does (write 2 ∷ []))) (page_at 2) 2 ++ (sums (run carrying (does (write 2 ∷ []))) (page_at 2) 2
    ++ sums (run carrying (does (backup 2 2 ∷ []))) (slot_at 2) 2))
    (in_words ++ (in_bytes ++ in_bytes))
    ∷ row "carry: 1 before 2, 2 before 20, and the ordinary 1"
    (numbers (start_carry_of over.volume [] zero_state).answer
    ++ (numbers (start_carry_of old_volume.volume [] zero_state).answer
    ++ (numbers (restamp_of carrying.volume [] zero_state).answer
    ++ (numbers (finish_carry_of carrying.volume [] zero_state).answer
    ++ numbers (restamp_of (take 1043 carrying.volume) (memory 2) zero_state).answer))))
    (refused 1 ++ (refused 2 ++ (refused 2 ++ (refused 2 ++ refused 1))))
    ∷ row "carry: which sums a heading judges by, words"
    (inspected (tagged_at (tag_of First) First) 1
    ++ (inspected (tagged_at carry_tag First) 1 ++ inspected (tagged_at (tag_of Second) First) 1))
    (from_own Good 0 ++ (at3 ++ (from_own Good 0 ++ (at3 ++ (from_format Failed 2 ++ at3)))))
    ∷ row "carry: which sums a heading judges by, bytes"
    (inspected (tagged_at (tag_of First) Second) 1
    ++ (inspected (tagged_at carry_tag Second) 1 ++ inspected (tagged_at (tag_of Second) Second) 1))
    (from_format Failed 2 ++ (at3 ++ (from_own Good 0 ++ (at3 ++ (from_own Good 0 ++ at3)))))
    ∷ row "carry: the log is no ring until it is over"
    (asked full_log put ++ (asked (run full_log (does (restamp ∷ restamp ∷ []))) finish_carry
    ++ asked (run full_log (does (restamp ∷ restamp ∷ finish_carry ∷ []))) put))
    (refused 12 ++ (done ++ done))
    ∷ row "carry: the headings that are known"
    (bits (valid_volume carrying.volume ∷ valid_volume (stored_in carrying.volume (new_heading 0x44 ∷ [])) ∷ []))
    (yes ∷ no ∷ [])
    ∷ []
