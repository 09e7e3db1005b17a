-- A conversation: lines are read, and each is answered before more is read.
use Rattle.std.specs.Prelude.{◌≡◌, ℕ, ◌-◌, ◌^◌, ◌≤◌, List, [], ◌∷◌, ◌++◌, length, Result, Ok, Err, ⊤}
use Rattle.std_io.specs.declared.io.error.Error.{Error}
use Rattle.families.specs.Families.{Family}
use Rattle.report.specs.Events.{Event, read, read_failed, bytes_read, bytes_written, IsWrite, OnlyWrites}
use Rattle.report.specs.Events.{Unwritten}
use Rattle.report.specs.Lines.{Line}
use Rattle.report.specs.Sessions.{family_of, actions_of, features_of}
use Rattle.report.specs.Transcripts.{next, Unbroken, Transcribed}
use Rattle.report.specs.declared.session.Session.{Session}
use Rattle.report.specs.declared.serve.Stopped.{Stopped}
use Rattle.report.specs.declared.serve.Stopped.TheVariants.{Input, Output, Memory, Spent}

-- From line n on this text was read, and these answers are to the lines that have ended in it; line m has
-- begun, with what is left of the text.
pub data Answered (F : Family) (actions features : List ℕ) : ℕ → List ℕ → List (List ℕ) → ℕ → List ℕ
    → Type 0 where
  begun : {n : ℕ} {text : List ℕ} → Unbroken text → Answered F actions features n text [] n text
  answered : {n m : ℕ} {text bytes rest left : List ℕ} {more : List (List ℕ)} → Unbroken text
      → Line F actions features n text bytes → Answered F actions features (next n) rest more m left
      → Answered F actions features n (text ++ 10 ∷ rest) (bytes ∷ more) m left

-- Lines as they are written, each with byte 10 at its end.
abbrev pub ended : List (List ℕ) → List ℕ
ended [] = []
ended (line ∷ lines) = line ++ (10 ∷ ended lines)

-- The answers to all lines that have ended in what was read were written, and nothing else was.
pub record UpToDate (s : Session) (es : List Event) : Type 0 where
  pub lines : List (List ℕ)
  pub number : ℕ
  pub left : List ℕ
  pub answers : Answered (family_of s) (actions_of s) (features_of s) 1 (bytes_read es) lines number left
  pub written : bytes_written es ≡ ended lines

-- Each read comes when the answers to all lines that have ended by then are written.
pub data Prompt (s : Session) : List Event → Type 0 where
  at_first : Prompt s []
  then_read : {es : List Event} (e : Event) → Prompt s es → UpToDate s es → Prompt s (es ++ e ∷ [])
  then_wrote : {es : List Event} (e : Event) → Prompt s es → IsWrite e → Prompt s (es ++ e ∷ [])

-- The input's end was read, all of its lines are answered, and nothing was read after it.
pub record Completed (s : Session) (es : List Event) : Type 0 where
  pub lines : List (List ℕ)
  pub transcript : Transcribed (family_of s) (actions_of s) (features_of s) 1 (bytes_read es) lines
  pub written : bytes_written es ≡ ended lines
  pub before : List Event
  pub after : List Event
  pub end : es ≡ before ++ (read [] ∷ after)
  pub writes : OnlyWrites after

-- The last read failed with this error.
pub record Unread (s : Session) (e : Error) (es : List Event) : Type 0 where
  pub before : List Event
  pub failure : es ≡ before ++ (read_failed e ∷ [])
  pub answers : UpToDate s before

-- As many bytes were read as reads are counted, and no end came.
pub record Exhausted (s : Session) (es : List Event) : Type 0 where
  pub answers : UpToDate s es
  pub many : 2 ^ 64 - 1 ≤ length (bytes_read es)

-- What was written of the answer to line n, which is this text, and of its end: a front, or nothing where
-- there is no memory for it.
pub data Part (s : Session) (n : ℕ) (text : List ℕ) : Stopped → List ℕ → Type 0 where
  nothing_of_it : {e : _} → Part s n text (Memory e) []
  front_of_it : {e : Error} {part : List ℕ} (answer rest : List ℕ)
      → Line (family_of s) (actions_of s) (features_of s) n text answer
      → answer ++ 10 ∷ [] ≡ part ++ rest → Part s n text (Output e) part

-- That an answer was not written whole is told by the last write. Want of memory is no event.
abbrev pub Caused : Stopped → List Event → Type 0
Caused (Input e) es = ⊥
Caused (Output e) es = Unwritten e es
Caused (Memory e) es = ⊤
Caused Spent es = ⊥

-- The answers to the lines that have ended in a front of what was read were written, and a part of the next.
pub record BrokenOff (s : Session) (why : Stopped) (es : List Event) : Type 0 where
  pub done : List ℕ
  pub rest : List ℕ
  pub split : bytes_read es ≡ done ++ rest
  pub number : ℕ
  pub left : List ℕ
  pub lines : List (List ℕ)
  pub part : List ℕ
  pub answers : Answered (family_of s) (actions_of s) (features_of s) 1 done lines number left
  pub begins : Part s number left why part
  pub written : bytes_written es ≡ ended lines ++ part
  pub caused : Caused why es

-- How a conversation ends.
abbrev pub Ends : {T : Type 0} → Session → Result T Stopped → List Event → Type 0
Ends s (Ok x) es = Completed s es
Ends s (Err (Input e)) es = Unread s e es
Ends s (Err (Output e)) es = BrokenOff s (Output e) es
Ends s (Err (Memory e)) es = BrokenOff s (Memory e) es
Ends s (Err Spent) es = Exhausted s es

-- These events are a conversation with a session, and this is its result.
pub record Conversation {T : Type 0} (s : Session) (result : Result T Stopped)
    (es : List Event) : Type 0 where
  pub prompt : Prompt s es
  pub ends : Ends s result es
