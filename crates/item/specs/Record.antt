-- The first bytes of a log record, as the function that writes them states them.
use Rattle.std.specs.Prelude.{ℕ, List, [], ◌∷◌, ◌++◌}
use Rattle.model.specs.Bytes.{bytes_of}
use Rattle.model.specs.declared.item.LogRecord.{LogRecord}

-- the 16 bytes before the payload
unfoldable pub head_of : LogRecord → List ℕ
head_of e =
    bytes_of 4 e.lsn ++ (bytes_of 4 e.prev
    ++ (bytes_of 2 e.page ++ (e.kind ∷ e.length ∷ (bytes_of 2 e.offset ++ (e.fill ∷ 0 ∷ [])))))
