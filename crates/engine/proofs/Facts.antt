-- What holds of every book.
use Rattle.std.proofs.Common.{◌≡◌, ℕ, ◌<◌, ◌≤◌, length, arith}
use Rattle.lines.specs.Proper.{Proper}
use Rattle.lines.specs.declared.line.Line.{Line}
use Rattle.tables.proofs.Facts as table
use Rattle.tables.proofs.Records.{shown_below}
use Rattle.engine.specs.Books.{devices_of, records_of, sheet_of}
use Rattle.engine.specs.declared.book.Book.{Book}

module _ {S : Type 0} where
  pub full : (b : Book S) → length (records_of b) ≡ 400
  full b = table.full b.table

  pub proper : (b : Book S) (k : ℕ) (l : Line) → sheet_of b k l → Proper (devices_of b) l
  proper b = table.proper b.table

  pub few : (b : Book S) → devices_of b ≤ 200
  few b = table.few b.table

  -- lines stand under numbers below 400
  pub below : (b : Book S) (k : ℕ) (l : Line) → sheet_of b k l → k < 400
  below b k l shows = omega (arith, full b, shown_below (records_of b) k l shows)
