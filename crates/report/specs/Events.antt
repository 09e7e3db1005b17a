-- What passes between a program and its console, and what is known of a console.
use Rattle.std.specs.Prelude.{◌≡◌, ℕ, List, [], ◌∷◌, ◌++◌, take, Option, Some, None, Result, Ok, Err, ⊤}
use Rattle.std.specs.Io.KnownBytes.{Appends, Consumes}
use Rattle.std.specs.List.{AllByRecursion}
use Rattle.std.specs.IoError.{error_kind}
use Rattle.std_io.specs.declared.io.error.Error.{Error}
use Rattle.std_io.specs.declared.io.kind.ErrorKind.TheVariants.{WriteZero}

-- One read or one write. A read that gives no byte is the input's end.
pub data Event : Type 0 where
  read : List ℕ → Event
  read_failed : Error → Event
  wrote : List ℕ → Event
  write_failed : Error → Event

-- The bytes that one event gives to the program, and those that it takes from it.
abbrev pub given : Event → List ℕ
given (read bytes) = bytes
given (read_failed e) = []
given (wrote bytes) = []
given (write_failed e) = []

abbrev pub taken : Event → List ℕ
taken (read bytes) = []
taken (read_failed e) = []
taken (wrote bytes) = bytes
taken (write_failed e) = []

-- All that was read, and all that was written.
abbrev pub bytes_read : List Event → List ℕ
bytes_read [] = []
bytes_read (e ∷ es) = given e ++ bytes_read es

abbrev pub bytes_written : List Event → List ℕ
bytes_written [] = []
bytes_written (e ∷ es) = taken e ++ bytes_written es

abbrev pub IsWrite : Event → Type 0
IsWrite (read bytes) = ⊥
IsWrite (read_failed e) = ⊥
IsWrite (wrote bytes) = ⊤
IsWrite (write_failed e) = ⊤

abbrev pub OnlyWrites : List Event → Type 0
OnlyWrites es = AllByRecursion IsWrite es

-- What is known of a console: the bytes that it will still give, those that it holds, and all that has
-- happened on it, in order.
pub record Known : Type 0 where
  pub unread : Option (List ℕ)
  pub written : Option (List ℕ)
  pub events : Option (List Event)

-- Known events grow by these, or are forgotten for good.
abbrev pub Happen : Option (List Event) → Option (List Event) → List Event → Type 0
Happen None None es = ⊤
Happen None (Some ys) es = ⊥
Happen (Some xs) None es = ⊤
Happen (Some xs) (Some ys) es = ys ≡ xs ++ es

-- These events, and no others, lead from what was known before to what is known after them.
pub record Passes (old new : Known) (es : List Event) : Type 0 where
  pub read : Consumes old.unread new.unread (bytes_read es)
  pub written : Appends old.written new.written (bytes_written es)
  pub happened : Happen old.events new.events es

-- Some events did, of which this is said.
abbrev pub Through : Known → Known → (List Event → Type 0) → Type 0
Through old new P = (es : List Event) × Passes old new es × P es

-- All that a console had to give was read, if that is known.
abbrev pub ReadsAll : Option (List ℕ) → List Event → Type 0
ReadsAll None es = ⊤
ReadsAll (Some input) es = bytes_read es ≡ input

-- The event that a read is, by its result and the buffer after it, and the event that a write is.
abbrev pub reading : Result ℕ Error → List ℕ → List Event
reading (Ok n) buffer = read (take n buffer) ∷ []
reading (Err e) buffer = read_failed e ∷ []

abbrev pub writing : Result ℕ Error → List ℕ → List Event
writing (Ok n) bytes = wrote (take n bytes) ∷ []
writing (Err e) bytes = write_failed e ∷ []

-- The last event is a write that failed with this error, or one that took nothing.
pub data Unwritten (e : Error) : List Event → Type 0 where
  failed : Unwritten e (write_failed e ∷ [])
  took_nothing : error_kind e ≡ WriteZero → Unwritten e (wrote [] ∷ [])
  later : {es : List Event} (first : Event) → Unwritten e es → Unwritten e (first ∷ es)

-- Bytes were written whole, or a front of them up to a failure.
abbrev pub Puts : {T : Type 0} → List ℕ → Result T Error → List Event → Type 0
Puts bytes (Ok x) es = OnlyWrites es × (bytes_written es ≡ bytes)
Puts bytes (Err e) es = OnlyWrites es × ((rest : List ℕ) × (bytes ≡ bytes_written es ++ rest))
    × Unwritten e es
