-- Rows on the state as 360 numbers: in which order they stand, which lists are a state's, and the numbers that a
-- Restart leaves.
use Rattle.std.specs.Prelude.{ℕ, List, [], ◌∷◌, ◌++◌, Bool, length, replicate, set, take}
use Rattle.model.specs.Bytes.{part}
use Rattle.model.specs.History.{Machine, run}
use Rattle.model.specs.declared.change.Change.TheVariants.{Put}
use Rattle.face.specs.Numbers.{numbers_of, state_of, fits}
use Rattle.face.specs.Face.{restarted_of}
use Rattle.cases.specs.Rows.{Row, row, same}
use Rattle.cases.specs.Words.{bit, bits, yes, no, entered}
use Rattle.cases.specs.Calls.{change, force, write, backup, note}
use Rattle.cases.specs.Build.{memory, reach}
use Rattle.cases.specs.Prologues.{pages_forced}
use Rattle.cases.specs.Rings.{put}
use Rattle.cases_c.specs.OpenedForC.{opened_for_c}
use Rattle.cases_c.specs.Faces.{does, with_state}

-- page 1 at record 4, its backup in slot 5 not yet noted; page 2's record 5 is pending
abbrev busy : Machine
busy =
    reach 2 5 8 4
    (pages_forced 2 ++ does (write 1 ∷ note ∷ write 2 ∷ note ∷ put 3 ∷ force ∷ put 4 ∷ force ∷ backup 1 5
    ∷ change 2 (Put 0 1) (5 ∷ replicate 43 0) ∷ []))

abbrev stated : Machine → List ℕ
stated w = with_state w.power [] (λ m s. numbers_of s)

-- the first numbers: counts, the pending note (kind, number, page, slot, lsn), two frames, and of the pages two
abbrev front : List ℕ → List ℕ
front xs = take 12 xs ++ part xs 40 10

-- a state's numbers with one of them another
abbrev changed : ℕ → ℕ → Bool
changed i n = fits (set (stated busy) i n)

abbrev changed_idle : ℕ → ℕ → Bool
changed_idle i n = fits (set (replicate 360 0) i n)

-- answer, length and first numbers of what a Restart leaves
abbrev restarts : List ℕ → List ℕ → List ℕ
restarts v xs = let o = restarted_of v (memory 2) xs in o.answer ∷ length o.state ∷ front o.state

unfoldable pub stated_rows : List Row
unfolding opened_for_c
stated_rows =
    row "C: a state's 360 numbers: counts, the pending note, frames, pages"
    (length (stated busy) ∷ (front (stated busy) ++ part (stated (run busy (does (note ∷ [])))) 2 43))
    (360 ∷ ((4 ∷ 1 ∷ 2 ∷ 2 ∷ 3 ∷ 1 ∷ 5 ∷ 4 ∷ 1 ∷ 1 ∷ 2 ∷ 1 ∷ []) ++ (entered 4 4 1 0 0 ++ (entered 5 2 2 0 0
    ++ (3 ∷ 0 ∷ 0 ∷ 0 ∷ 0 ∷ 0 ∷ 1 ∷ 1 ∷ 2 ∷ 1 ∷ (replicate 28 0 ++ entered 4 4 1 5 4))))))
    ∷ row "C: the state of a state's numbers has these numbers"
    (bit (same (numbers_of (state_of (stated busy))) (stated busy)) ∷ bit (fits (stated busy)) ∷ []) (yes ∷ yes ∷ [])
    ∷ row "C: 360 numbers, no more and no fewer"
    (bits (fits (replicate 359 0) ∷ fits (replicate 360 0) ∷ fits (replicate 361 0) ∷ [])) (no ∷ yes ∷ no ∷ [])
    ∷ row "C: a note's kind to 2, its page to 65535, its slot to 255"
    (bits (changed 3 1 ∷ changed 3 3 ∷ changed 5 65535 ∷ changed 5 65536 ∷ changed 6 255 ∷ changed 6 256
    ∷ changed 4 4294967295 ∷ changed 7 4294967295 ∷ []))
    (yes ∷ no ∷ yes ∷ no ∷ yes ∷ no ∷ yes ∷ yes ∷ [])
    ∷ row "C: where no note is pending its numbers are 0"
    (bits (changed_idle 4 1 ∷ changed_idle 5 1 ∷ changed_idle 6 1 ∷ changed_idle 7 1 ∷ changed_idle 2 1 ∷ []))
    (no ∷ no ∷ no ∷ no ∷ yes ∷ [])
    ∷ row "C: a frame's page to 65535 and dirty to 1, a page's slot to 255, the last ones too"
    (bits (changed 8 65535 ∷ changed 8 65536 ∷ changed 9 1 ∷ changed 9 2 ∷ changed 38 65536 ∷ changed 39 2
    ∷ changed 43 255 ∷ changed 43 256 ∷ changed 358 255 ∷ changed 358 256 ∷ changed 359 4294967295 ∷ []))
    (yes ∷ no ∷ yes ∷ no ∷ no ∷ no ∷ yes ∷ no ∷ yes ∷ no ∷ yes ∷ [])
    ∷ row "C: a Restart's numbers; 2 for another length, behind 1"
    (restarts busy.volume (replicate 360 9) ++ (take 2 (restarts busy.volume (replicate 359 9))
    ++ (take 2 (restarts (set busy.volume 0 0) (replicate 359 9))
    ++ take 2 (restarts (set busy.volume 0 0) (replicate 360 9)))))
    (0 ∷ 360 ∷ 4 ∷ 0 ∷ 2 ∷ (replicate 9 0 ++ (entered 4 4 1 0 0 ++ (entered 2 2 2 0 0
    ++ (2 ∷ 359 ∷ 1 ∷ 359 ∷ 1 ∷ 360 ∷ [])))))
    ∷ []
