-- Rows on the exact forecast (document 02, §12). Page 1 has records 1 (a format), 2 and 3 (puts) unless it is said;
-- page 2 is blank.
use Rattle.std.specs.Prelude.{ℕ, List, [], ◌∷◌, ◌++◌, length, replicate, set, take}
use Rattle.model.specs.Geometry.{page_at, slot_at, record_at, note_at}
use Rattle.model.specs.Outcome.{StoredItem, one_item}
use Rattle.model.specs.Restart.{inspect_of}
use Rattle.cases.specs.Calls.{force, backup, note}
use Rattle.model.specs.History.{Event, perform, damage, run}
use Rattle.reports.specs.Forecast.{forecast_of, forecast_row, tell_forecast}
use Rattle.model.specs.declared.geometry.Heading.TheVariants.{Second}
use Rattle.model.specs.declared.answer.Class.TheVariants.{Good, Behind, Failed, Ahead}
use Rattle.cases.specs.Rows.{Row, row}
use Rattle.cases.specs.Opened.{opened}
use Rattle.cases.specs.Words.{bit, from_own, from_backup, from_format, refused, numbers, yes, accepted, refusal}
use Rattle.cases.specs.Build.{image, broken, written_note, backup_note, small_volume, buffer}
use Rattle.cases.specs.Prologues.{page_backed_up}
use Rattle.cases.specs.Table.{body1}
use Rattle.cases.specs.Rings.{record_no, reach_ring, turned, two_pages, put}
use Rattle.cases.specs.Worked.{Tale, tale_of, history_with}

-- page p's figure: its refusal and its count
abbrev forecasted : List ℕ → ℕ → List ℕ
forecasted v p = let f = forecast_row v p in f.refusal ∷ f.count ∷ []

-- in words: so many records to replay; and a page that cannot be rebuilt
abbrev replayed : ℕ → List ℕ
replayed n = accepted ∷ n ∷ []

abbrev page_lost : List ℕ
page_lost = refusal 23 ∷ 0 ∷ []

-- a volume with the three records and more
abbrev pub three : List StoredItem → List ℕ
three xs = small_volume
    (one_item (record_at 1) (record_no 1) ∷ one_item (record_at 2) (record_no 2) ∷ one_item (record_at 3) (record_no 3) ∷ xs)

abbrev backed_up : ℕ → List StoredItem
backed_up n = one_item (slot_at 1) (image 1 n body1) ∷ one_item (note_at 1) (backup_note 1 1 1 n) ∷ []

abbrev own_at : ℕ → StoredItem
own_at n = one_item (page_at 1) (image 1 n body1)

-- the answer of inspection, and the figure
abbrev beside : List ℕ → ℕ → List ℕ
beside v p = numbers (inspect_of v p buffer).answer ++ forecasted v p

-- backed up at 1 in slot 1; at 2 in slot 2; at 3 in slot 1 again, and slot 1's first image comes back as damage
abbrev older : List Event
older =
    page_backed_up 1 ++ (perform (put 2)
    ∷ perform force ∷ perform (backup 1 2)
    ∷ perform note ∷ perform (put 3) ∷ perform force ∷ perform (backup 1 1) ∷ perform note
    ∷ damage (slot_at 1) (image 1 1 body1) ∷ [])

abbrev pub older_tale : Tale
older_tale = tale_of (history_with Second 1 2 4 4 older)

-- two pages, the first of which cannot be rebuilt
abbrev lost : List ℕ
lost = (run (reach_ring 2 1 2 2 two_pages)
    (damage (slot_at 1) (replicate 256 1) ∷ damage (page_at 1) (replicate 256 1) ∷ [])).volume

abbrev bad_log : StoredItem
bad_log = one_item (record_at 3) (record_no 2)

abbrev bad_notes : StoredItem
bad_notes = one_item (note_at 1) (written_note 2 1 3)

-- the answer, the length of the array lent with n numbers, and the first six of them
abbrev told : List ℕ → ℕ → List ℕ
told v n = let t = tell_forecast v (replicate n 0xAA) in t.refusal ∷ length t.figures ∷ take 6 t.figures

-- the answer, and the first two numbers of the array
abbrev left : List ℕ → ℕ → List ℕ
left v n = let t = tell_forecast v (replicate n 0xAA) in t.refusal ∷ take 2 t.figures

-- a refusal that leaves the array
abbrev leaves : ℕ → List ℕ
leaves refusal = refusal ∷ 0xAA ∷ 0xAA ∷ []

unfoldable pub forecast_rows : List Row
unfolding opened
forecast_rows =
    row "forecast: from the format, and a blank page" (beside (three []) 1 ++ beside (three []) 2)
    (from_format Failed 3 ++ (replayed 3 ++ (refused 7 ++ replayed 0)))
    ∷ row "forecast: the own image is tested"
    (beside (three (own_at 3 ∷ [])) 1
    ++ (beside (three (own_at 2 ∷ [])) 1 ++ beside (three (one_item (page_at 1) (broken (image 1 3 body1)) ∷ [])) 1))
    (from_own Good 0 ++ (replayed 0 ++ (from_own Behind 1 ++ (replayed 1 ++ (from_format Failed 3 ++ replayed 3)))))
    ∷ row "forecast: an own image off the chain, or at 0, starts nothing"
    (beside (three (own_at 4 ∷ [])) 1 ++ beside (three (own_at 0 ∷ [])) 1)
    (from_format Ahead 3 ++ (replayed 3 ++ (from_format Behind 3 ++ replayed 3)))
    ∷ row "forecast: the backup is tested"
    (beside (three (backed_up 2)) 1 ++ beside (three (one_item (note_at 1) (backup_note 1 1 1 2) ∷ [])) 1)
    (from_backup Failed 1 ++ (replayed 1 ++ (from_format Failed 3 ++ replayed 3)))
    ∷ row "forecast: an older backup in the slot starts nothing"
    (bit older_tale.ok ∷ beside older_tale.machine.volume 1)
    (yes ∷ (from_format Failed 3 ++ replayed 3))
    ∷ row "forecast: record 1 has left" (beside (reach_ring 1 1 2 2 turned).volume 1)
    (from_backup Failed 2 ++ replayed 2)
    ∷ row "forecast: 23 is that page's alone" ((forecast_of lost).refusal ∷ (beside lost 1 ++ beside lost 2))
    (accepted ∷ (refused 23 ++ (page_lost ++ (from_format Failed 2 ++ replayed 2))))
    ∷ row "forecast: refused 1, 17 and 18, with rows of zeros"
    ((forecast_of (set (three (bad_log ∷ [])) 0 0)).refusal ∷ (forecast_of (three (bad_log ∷ bad_notes ∷ []))).refusal
    ∷ (forecast_of (three (bad_notes ∷ []))).refusal ∷ forecasted (three (bad_notes ∷ [])) 1)
    (refusal 1 ∷ refusal 17 ∷ refusal 18 ∷ replayed 0)
    ∷ row "forecast: 64 rows"
    (length (forecast_of (three [])).pages ∷ (forecast_of (three [])).refusal ∷ forecasted (three []) 3)
    (64 ∷ accepted ∷ replayed 0)
    ∷ row "forecast: as numbers" (told (three (backed_up 2)) 128 ++ told lost 128)
    (accepted ∷ 128 ∷ (replayed 1 ++ (replayed 0 ++ (replayed 0 ++ (accepted ∷ 128 ∷ (page_lost ++ (replayed 2
    ++ replayed 0)))))))
    ∷ row "forecast: as numbers, refused 1, 2, 17 and 18"
    (left (set (three (bad_log ∷ [])) 0 0) 127
    ++ (left (three (bad_log ∷ [])) 127
    ++ (left (three (bad_log ∷ bad_notes ∷ [])) 128 ++ left (three (bad_notes ∷ [])) 128)))
    (leaves (refusal 1) ++ (leaves (refusal 2) ++ (leaves (refusal 17) ++ leaves (refusal 18))))
    ∷ []
