-- What a book holds.
use Rattle.std.specs.Prelude.{ℕ, List, Option}
use Rattle.lines.specs.Quarrels.{Sheet}
use Rattle.lines.specs.declared.line.Line.{Line}
use Rattle.tables.specs.Of as table
use Rattle.tables.specs.Tables.{Shows}
use Rattle.engine.specs.declared.book.Book.{Book}

module _ {S : Type 0} where
  abbrev pub devices_of : Book S → ℕ
  devices_of b = table.devices_of b.table

  -- under each number a line or none
  abbrev pub records_of : Book S → List (Option Line)
  records_of b = table.records_of b.table

  -- which lines stand under which numbers
  abbrev pub sheet_of : Book S → Sheet
  sheet_of b = Shows (records_of b)
