-- What one piece of an input makes a transcript write.
use Rattle.std.specs.Prelude.{◌≡◌, ℕ, List, [], ◌∷◌, ◌++◌, Result, Ok, Err, vec_items}
use Rattle.report.specs.Conversations.{Answered, ended, Part, Caused}
use Rattle.report.specs.Events.{Event, bytes_written, OnlyWrites, Unwritten}
use Rattle.report.specs.Sessions.{family_of, actions_of, features_of}
use Rattle.report.specs.Transcripts.{kept, Unbroken, Transcribed}
use Rattle.report.specs.declared.session.Session.{Session}
use Rattle.report.specs.declared.transcript.Transcript.{Transcript}
use Rattle.report.specs.declared.serve.Stopped.{Stopped}
use Rattle.report.specs.declared.serve.Stopped.TheVariants.{Input, Output, Memory, Spent}

-- A line and its end were written whole, or a front of them up to a failure; without memory nothing was.
abbrev pub Says : {T : Type 0} → List ℕ → Result T Stopped → List Event → Type 0
Says line (Ok x) es = OnlyWrites es × (bytes_written es ≡ line ++ 10 ∷ [])
Says line (Err (Input e)) es = ⊥
Says line (Err (Output e)) es = OnlyWrites es
    × ((rest : List ℕ) × (line ++ 10 ∷ [] ≡ bytes_written es ++ rest)) × Unwritten e es
Says line (Err (Memory e)) es = es ≡ []
Says line (Err Spent) es = ⊥

-- The transcript is within a line with this text.
pub record Within (t : Transcript) (text : List ℕ) : Type 0 where
  pub keeps : vec_items t.line ≡ kept text
  pub unbroken : Unbroken text

-- A transcript that is within a line with this text took these bytes, and this was written: the answers to
-- the lines that end in them.
pub record Takes (s : Session) (t u : Transcript) (text bytes written : List ℕ) : Type 0 where
  pub left : List ℕ
  pub lines : List (List ℕ)
  pub within : Within u left
  pub answers : Answered (family_of s) (actions_of s) (features_of s) t.number
      (text ++ bytes) lines u.number left
  pub wrote : written ≡ ended lines

-- Whatever line the transcript is within.
abbrev pub TakesAll : Transcript → Transcript → List ℕ → List ℕ → Type 0
TakesAll t u bytes written = (text : List ℕ) → Within t text → Takes t.session t u text bytes written

-- It stopped within these bytes: after some of them, and with a part of the answer to the line that has
-- begun there.
pub record Breaks (s : Session) (t : Transcript) (text bytes : List ℕ) (why : Stopped)
    (written : List ℕ) : Type 0 where
  pub done : List ℕ
  pub rest : List ℕ
  pub number : ℕ
  pub left : List ℕ
  pub lines : List (List ℕ)
  pub part : List ℕ
  pub split : bytes ≡ done ++ rest
  pub answers : Answered (family_of s) (actions_of s) (features_of s) t.number
      (text ++ done) lines number left
  pub begins : Part s number left why part
  pub wrote : written ≡ ended lines ++ part

abbrev pub BreaksAll : Transcript → List ℕ → Stopped → List ℕ → Type 0
BreaksAll t bytes why written = (text : List ℕ) → Within t text → Breaks t.session t text bytes why written

-- What a transcript does with these bytes.
abbrev pub Feeds : {T : Type 0} → Transcript → Transcript → List ℕ → Result T Stopped → List Event → Type 0
Feeds t u bytes (Ok x) es = OnlyWrites es × TakesAll t u bytes (bytes_written es)
Feeds t u bytes (Err why) es = OnlyWrites es × BreaksAll t bytes why (bytes_written es) × Caused why es

-- At the end of an input the answer to a last line that is not empty was written.
pub record Closes (s : Session) (t : Transcript) (text written : List ℕ) : Type 0 where
  pub lines : List (List ℕ)
  pub transcript : Transcribed (family_of s) (actions_of s) (features_of s) t.number text lines
  pub wrote : written ≡ ended lines

abbrev pub ClosesAll : Transcript → List ℕ → Type 0
ClosesAll t written = (text : List ℕ) → Within t text → Closes t.session t text written

-- What a transcript does at the end of an input.
abbrev pub Finishes : {T : Type 0} → Transcript → Result T Stopped → List Event → Type 0
Finishes t (Ok x) es = OnlyWrites es × ClosesAll t (bytes_written es)
Finishes t (Err why) es = OnlyWrites es × BreaksAll t [] why (bytes_written es) × Caused why es
