-- The stages of a session's reading, and what moves it from one to the next.
use Rattle.std.specs.Prelude.{◌≡◌, ℕ, ◌-◌, ◌<◌, List, length, Some, None, Ok, Err, Option, Result}
use Rattle.lines.specs.declared.call.Call.{Call}
use Rattle.session.specs.declared.fault.Fault.{Fault}
use Rattle.session.specs.declared.heading.Heading.{Heading}
use Rattle.session.specs.declared.reader.Commands.{Commands}
use Rattle.session.specs.Commands.{Closes, Spelt, Stops, behind}

-- the bytes that a reader reads, the place of the next, and what the heading said
abbrev pub bytes_of : Commands → List ℕ
bytes_of s = s.cursor.bytes.now

abbrev pub place_of : Commands → ℕ
place_of s = s.cursor.place

abbrev pub heading_of : Commands → Heading
heading_of s = s.heading

-- a command, and the reader that stands behind it; or the end; or a fault
abbrev pub Gives : Commands → Result (Option (Call × Commands)) Fault → Type 0
Gives s (Ok (Some (c, s'))) = Spelt (bytes_of s) (place_of s) c × (bytes_of s' ≡ bytes_of s) × (place_of s' ≡ behind (place_of s) c) × (heading_of s' ≡ heading_of s)
Gives s (Ok None) = Closes (bytes_of s) (place_of s)
Gives s (Err f) = Stops (bytes_of s) (place_of s) f

-- the bytes that a reader has yet to read
abbrev pub left : Commands → ℕ
left s = length (bytes_of s) - place_of s

-- a command leaves fewer of them
abbrev pub Forward : Commands → Result (Option (Call × Commands)) Fault → Type 0
Forward s (Ok (Some (c, s'))) = left s' < left s
Forward s (Ok None) = Unit {0}
Forward s (Err f) = Unit {0}
