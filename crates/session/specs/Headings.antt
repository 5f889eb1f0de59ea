-- A session's heading: the letters STOP, the code of a scale, and a number of devices.
use Rattle.std.specs.Prelude.{◌≡◌, ℕ, ◌<◌, ◌≤◌, Bool, true, false, ◌&&◌, ◌||◌, ◌⊎◌, List, [], ◌∷◌, length, Ok, Err, Result, ◌==◌, nat_eq, nat_le, slice_index, slice_index_or}
use Rattle.session.specs.declared.fault.Cause.TheVariants.{TooLong, BadHeading}
use Rattle.session.specs.declared.fault.Fault.{Fault}
use Rattle.session.specs.declared.fault.Layer.TheVariants.{Heading}
use Rattle.session.specs.declared.reader.Commands.{Commands}

abbrev pub byte_at : List ℕ → ℕ → ℕ
byte_at bs place = slice_index bs place

-- ticks have the code 0, and stepless times the code 1
abbrev pub known : ℕ → Bool
known code = code == 0 || code == 1

-- what may stand at each place of a heading
abbrev pub rules : List (ℕ → Bool)
rules = (λ b. nat_eq b 0x53) ∷ (λ b. nat_eq b 0x54) ∷ (λ b. nat_eq b 0x4F) ∷ (λ b. nat_eq b 0x50) ∷ known ∷ (λ n. nat_le 1 n && nat_le n 200) ∷ []

abbrev pub right : ℕ → ℕ → Bool
right place b = slice_index_or rules place (λ _. true) b

-- the byte at i is there, and right
abbrev pub RightAt : List ℕ → ℕ → Type 0
RightAt bs i = (i < length bs) × (right i (byte_at bs i) ≡ true)

-- the byte at i is wrong, or missing
abbrev pub WrongAt : List ℕ → ℕ → Type 0
WrongAt bs i = i < length bs → right i (byte_at bs i) ≡ false

-- the first k bytes are there, and right
abbrev pub RightUpTo : List ℕ → ℕ → Type 0
RightUpTo bs k = (i : ℕ) → i < k → RightAt bs i

-- the session is not too long, and its heading is right
pub record Opened (bs : List ℕ) : Type 0 where
  pub short : length bs ≤ 60000
  pub heading : RightUpTo bs 6

-- the fault of a session that is too long
pub record Overlong (bs : List ℕ) (f : Fault) : Type 0 where
  pub long : 60000 < length bs
  pub cause : f.cause ≡ TooLong
  pub place : f.place ≡ 60000
  pub layer : f.layer ≡ Heading

-- k is the first place of a heading whose byte is wrong or missing
pub record FirstWrong (bs : List ℕ) (k : ℕ) : Type 0 where
  pub inside : k < 6
  pub before : RightUpTo bs k
  pub wrong : WrongAt bs k

-- the fault of a session, not too long, whose first wrong or missing byte stands in its heading
pub record Misheaded (bs : List ℕ) (f : Fault) : Type 0 where
  pub short : length bs ≤ 60000
  pub cause : f.cause ≡ BadHeading
  pub layer : f.layer ≡ Heading
  pub first : FirstWrong bs f.place

abbrev pub Unopenable : List ℕ → Fault → Type 0
Unopenable bs f = Overlong bs f ⊎ Misheaded bs f

-- the reader that an opened session is handed on to: it stands behind the heading, and knows what that says
pub record Behind (bs : List ℕ) (s : Commands) : Type 0 where
  pub opened : Opened bs
  pub bytes : s.cursor.bytes.now ≡ bs
  pub place : s.cursor.place ≡ 6
  pub code : s.heading.code ≡ byte_at bs 4
  pub devices : s.heading.devices ≡ byte_at bs 5

abbrev pub Opens : List ℕ → Result Commands Fault → Type 0
Opens bs (Ok s) = Behind bs s
Opens bs (Err f) = Unopenable bs f
