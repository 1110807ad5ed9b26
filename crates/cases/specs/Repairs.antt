-- Concrete legal histories that end with a page repaired or whole: healthy and mended, let go, erased word by word.
use Rattle.std.specs.Prelude.{[], ◌∷◌, ◌++◌, replicate}
use Rattle.model.specs.Geometry.{page_at, slot_at}
use Rattle.cases.specs.Calls.{begin, load, force, write, backup, release, note}
use Rattle.model.specs.AbstractLog.{old}
use Rattle.model.specs.Detection.{with_word}
use Rattle.model.specs.History.{restart, crash, crash_in, damage}
use Rattle.model.specs.declared.{geometry.Heading.Heading, geometry.Heading.TheVariants.Second}
use Rattle.model.specs.declared.answer.Class.TheVariants.{Good, Behind, Failed}
use Rattle.model.specs.declared.change.Change.TheVariants.{Format}
use Rattle.cases.specs.Words.{from_own, from_backup, from_format, refused, done, shown}
use Rattle.cases.specs.Build.{image_under, broken, memory}
use Rattle.cases.specs.Prologues.{page_written, page_begun}
use Rattle.cases.specs.Worked.{Worked, told, quiet}
use Rattle.cases.specs.Slides.{all_done, logged, slide, slid, does, sevens_under}

-- Two stores with one durable change and the same bytes on the page: the one answers it healthy, the other mended after
-- damage. So `Same` can tell them apart, and demand 3, which compares body and number only, must not ask for it.
abbrev pub healthy : Heading → Worked
healthy h =
    record {
      name = "healthy";
      heading = h;
      pages = 1;
      slots = 0;
      records = 2;
      notes = 1;
      events =
          all_done (page_written 1)
          ++ (quiet crash
          ∷ []);
      durable = logged 1 (Format 7) [] ∷ [];
      shows = shown (from_own Good 0) 1 (7 ∷ 7 ∷ 7 ∷ 7 ∷ 7 ∷ 7 ∷ []) ∷ [];
    }

abbrev pub mended : Heading → Worked
mended h =
    record {
      name = "mended";
      heading = h;
      pages = 1;
      slots = 0;
      records = 2;
      notes = 1;
      events =
          all_done (page_written 1)
          ++ (quiet (damage (page_at 1) (broken (sevens_under h)))
          ∷ []);
      durable = logged 1 (Format 7) [] ∷ [];
      shows = shown (from_format Failed 1) 1 (7 ∷ 7 ∷ 7 ∷ 7 ∷ 7 ∷ 7 ∷ []) ∷ [];
    }

-- A page let go before it was ever written, pushed out by a Begin and by a Load, let go again and cut: each time it
-- opens with its text.
abbrev pub released : Heading → Worked
released h =
    record {
      name = "page let go";
      heading = h;
      pages = 3;
      slots = 0;
      records = 8;
      notes = 4;
      events =
          all_done (page_begun 1)
          ++ (does (release 1) (refused 10)
          ∷ does (release 2) (refused 8)
          ∷ does force done
          ∷ does (release 1) done
          ∷ does (release 1) (refused 8)
          ∷ does (load 1 1) (from_format Failed 1)
          ∷ does (slide 1 (0x41 ∷ [])) done
          ∷ does (begin 2 1 9) (refused 10)
          ∷ does force done
          ∷ does (begin 2 1 9) done
          ∷ does (load 1 1) (refused 10)
          ∷ does force done
          ∷ does (load 1 1) (from_format Failed 2)
          ∷ does (write 1) done
          ∷ does note done
          ∷ does (slide 1 (0x42 ∷ [])) done
          ∷ does force done
          ∷ quiet (crash_in (release 1) old)
          ∷ told (restart (memory 1)) done
          ∷ does (load 1 1) (from_own Behind 1)
          ∷ does (release 1) done
          ∷ quiet crash
          ∷ told (restart (memory 1)) done
          ∷ does (load 1 1) (from_own Behind 1)
          ∷ does (load 2 1) (from_format Failed 1)
          ∷ does (release 2) done
          ∷ does (release 4) (refused 3)
          ∷ []);
      durable = logged 1 (Format 7) [] ∷ slid 1 (0x41 ∷ []) ∷ logged 2 (Format 9) [] ∷ slid 1 (0x42 ∷ []) ∷ [];
      shows =
          shown (from_own Behind 1) 4 (0x42 ∷ 0x41 ∷ 7 ∷ 7 ∷ 7 ∷ 7 ∷ [])
          ∷ shown (from_format Failed 1) 3 (9 ∷ 9 ∷ 9 ∷ 9 ∷ 9 ∷ 9 ∷ []) ∷ refused 7 ∷ [];
    }

-- Flash that was erased word by word: a word of a page's own image, then of its backup, reads FFFF where 0000 was
-- stored. The second heading's sum catches both, so that the page is repaired from its backup, then from its format;
-- under the first this would be no damage that fails.
abbrev pub words_erased : Worked
words_erased =
    let x = image_under Second 1 1 (replicate 244 0) in
    record {
      name = "words erased";
      heading = Second;
      pages = 1;
      slots = 1;
      records = 4;
      notes = 4;
      events =
          told (restart (memory 1)) done
          ∷ does (begin 1 1 0) done
          ∷ does force done
          ∷ does (backup 1 1) done
          ∷ does note done
          ∷ does (write 1) done
          ∷ does note done
          ∷ quiet (damage (page_at 1) (with_word x 8 0xFF 0xFF))
          ∷ told (restart (memory 1)) done
          ∷ does (load 1 1) (from_backup Failed 0)
          ∷ quiet (damage (slot_at 1) (with_word x 250 0xFF 0xFF))
          ∷ told (restart (memory 1)) done
          ∷ does (load 1 1) (from_format Failed 1)
          ∷ [];
      durable = logged 1 (Format 0) [] ∷ [];
      shows = shown (from_format Failed 1) 1 (0 ∷ 0 ∷ 0 ∷ 0 ∷ 0 ∷ 0 ∷ []) ∷ [];
    }
