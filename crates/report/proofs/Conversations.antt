-- A conversation, read by read.
use Rattle.std.proofs.Common.{◌≡◌, ℕ, ◌-◌, ◌^◌, ◌≤◌, List, [], ◌∷◌, ◌++◌, length, Option, Some, None}
use Rattle.std.proofs.Common.{Result, Ok, Err, OnOk, vec_items, sym, refl, ap, ◌∙◌, subst, append_assoc}
use Rattle.std.proofs.Common.{append-nil}
use Rattle.std.specs.declared.alloc.AllocError.{AllocError}
use Rattle.std_io.specs.declared.io.error.Error.{Error}
use Rattle.report.specs.Events.{Event, read, read_failed, bytes_read, bytes_written, OnlyWrites, ReadsAll}
use Rattle.report.specs.Sessions.{family_of, actions_of, features_of}
use Rattle.report.specs.Transcripts.{Transcribed}
use Rattle.report.specs.Conversations.{Answered, begun, ended, UpToDate, Prompt, at_first, then_read}
use Rattle.report.specs.Conversations.{then_wrote, Completed, nothing_of_it, Caused, BrokenOff, Ends}
use Rattle.report.specs.Conversations.{Conversation}
use Rattle.report.specs.Pieces.{Within, Takes, TakesAll, Breaks, BreaksAll, Feeds, Closes, ClosesAll}
use Rattle.report.specs.Pieces.{Finishes}
use Rattle.report.specs.declared.session.Session.{Session}
use Rattle.report.specs.declared.transcript.Transcript.{Transcript}
use Rattle.report.specs.declared.serve.Stopped.{Stopped}
use Rattle.report.specs.declared.serve.Stopped.TheVariants.{Input, Output, Memory, Spent}
use Rattle.report.proofs.Events.{read_then, written_then, none_read, written_same}
use Rattle.report.proofs.Pieces.{ended_then, answered_then, closes, caused_then}

-- After these events the transcript is within a line, and all lines before it are answered.
pub record Reached (s : Session) (t : Transcript) (es : List Event) : Type 0 where
  pub same : t.session ≡ s
  pub prompt : Prompt s es
  pub lines : List (List ℕ)
  pub left : List ℕ
  pub within : Within t left
  pub answers : Answered (family_of s) (actions_of s) (features_of s) 1 (bytes_read es) lines t.number left
  pub written : bytes_written es ≡ ended lines

pub starts : (s : Session) (t : Transcript) → t.session ≡ s → vec_items t.line ≡ [] → t.number ≡ 1
    → Reached s t []
starts s t same none one = record {
  same = same;
  prompt = at_first;
  lines = [];
  left = [];
  within = record { keeps = none; unbroken = tt };
  answers = subst (λ (n : ℕ). Answered (family_of s) (actions_of s) (features_of s) 1 [] [] n []) (sym one)
      (begun tt);
  written = refl;
}

up_to_date : (s : Session) (t : Transcript) (es : List Event) → Reached s t es → UpToDate s es
up_to_date s t es r = record {
  lines = r.lines;
  number = t.number;
  left = r.left;
  answers = r.answers;
  written = r.written;
}

-- A read, and writes after it.
abbrev pub heard : List Event → List ℕ → List Event → List Event
heard es bytes fs = (es ++ read bytes ∷ []) ++ fs

pub heard_read : (es : List Event) (bytes : List ℕ) (fs : List Event) → OnlyWrites fs
    → bytes_read (heard es bytes fs) ≡ bytes_read es ++ bytes
heard_read es bytes fs only =
    read_then (es ++ read bytes ∷ []) fs ∙ ap (λ l. bytes_read (es ++ read bytes ∷ []) ++ l)
    (none_read fs only)
    ∙ append-nil (bytes_read (es ++ read bytes ∷ [])) ∙ read_then es (read bytes ∷ [])
    ∙ ap (λ l. bytes_read es ++ l) (append-nil bytes)

heard_written : (es : List Event) (bytes : List ℕ) (fs : List Event)
    → bytes_written (heard es bytes fs) ≡ bytes_written es ++ bytes_written fs
heard_written es bytes fs = written_then (es ++ read bytes ∷ []) fs
    ∙ ap (λ l. l ++ bytes_written fs) (written_same es (read bytes) refl)

prompt_writes : (s : Session) (es fs : List Event) → Prompt s es → OnlyWrites fs → Prompt s (es ++ fs)
prompt_writes s es [] p only = subst (Prompt s) (sym (append-nil es)) p
prompt_writes s es (f ∷ fs) p only = subst (Prompt s) (append_assoc es (f ∷ []) fs)
    (prompt_writes s (es ++ f ∷ []) fs (then_wrote f p only.0) only.1)

module _ (s : Session) (t : Transcript) (es : List Event) (r : Reached s t es) where
  prompt_heard : (bytes : List ℕ) (fs : List Event) → OnlyWrites fs → Prompt s (heard es bytes fs)
  prompt_heard bytes fs only = prompt_writes s (es ++ read bytes ∷ []) fs
      (then_read (read bytes) r.prompt (up_to_date s t es r)) only

  -- The answers to a piece.
  pub goes_on : (u : Transcript) (bytes : List ℕ) (fs : List Event) → u.session ≡ t.session → OnlyWrites fs
      → TakesAll t u bytes (bytes_written fs)
      → Reached s u (heard es bytes fs)
  goes_on u bytes fs same only takes =
      let p : Takes s t u r.left bytes (bytes_written fs) =
      subst (λ (x : Session). Takes x t u r.left bytes (bytes_written fs)) r.same
      (takes r.left r.within) in
      record {
        same = same ∙ r.same;
        prompt = prompt_heard bytes fs only;
        lines = r.lines ++ p.lines;
        left = p.left;
        within = p.within;
        answers = subst (λ (l : List ℕ). Answered (family_of s) (actions_of s) (features_of s) 1 l
            (r.lines ++ p.lines) u.number p.left) (sym (heard_read es bytes fs only))
            (answered_then (family_of s) (actions_of s) (features_of s) 1 t.number u.number
            (bytes_read es) r.left p.left bytes r.lines p.lines r.answers p.answers);
        written = heard_written es bytes fs ∙ ap (λ l. l ++ bytes_written fs) r.written
            ∙ ap (λ l. ended r.lines ++ l) p.wrote ∙ sym (ended_then r.lines p.lines);
      }

  completed : (fs : List Event) → OnlyWrites fs → ClosesAll t (bytes_written fs)
      → Completed s (heard es [] fs)
  completed fs only all =
      let p : Closes s t r.left (bytes_written fs) = subst
      (λ (x : Session). Closes x t r.left (bytes_written fs)) r.same (all r.left r.within) in
      record {
        lines = r.lines ++ p.lines;
        transcript = subst (λ (l : List ℕ). Transcribed (family_of s) (actions_of s) (features_of s) 1 l
            (r.lines ++ p.lines))
            (sym (heard_read es [] fs only ∙ append-nil (bytes_read es)))
            (closes (family_of s) (actions_of s) (features_of s) 1 t.number
            (bytes_read es) r.left r.lines p.lines r.answers p.transcript);
        written = heard_written es [] fs ∙ ap (λ l. l ++ bytes_written fs) r.written
            ∙ ap (λ l. ended r.lines ++ l) p.wrote ∙ sym (ended_then r.lines p.lines);
        before = es;
        after = fs;
        end = append_assoc es (read [] ∷ []) fs;
        writes = only;
      }

  broken : (bytes : List ℕ) (why : Stopped) (fs : List Event) → OnlyWrites fs
      → BreaksAll t bytes why (bytes_written fs) → Caused why fs
      → BrokenOff s why (heard es bytes fs)
  broken bytes why fs only all last =
      let p : Breaks s t r.left bytes why (bytes_written fs) =
      subst (λ (x : Session). Breaks x t r.left bytes why (bytes_written fs)) r.same
      (all r.left r.within) in
      record {
        done = bytes_read es ++ p.done;
        rest = p.rest;
        split = heard_read es bytes fs only ∙ ap (λ l. bytes_read es ++ l) p.split
            ∙ sym (append_assoc (bytes_read es) p.done p.rest);
        number = p.number;
        left = p.left;
        lines = r.lines ++ p.lines;
        part = p.part;
        answers = answered_then (family_of s) (actions_of s) (features_of s) 1 t.number p.number
            (bytes_read es) r.left p.left p.done r.lines p.lines r.answers p.answers;
        begins = p.begins;
        written = heard_written es bytes fs ∙ ap (λ l. l ++ bytes_written fs) r.written
            ∙ ap (λ l. ended r.lines ++ l) p.wrote
            ∙ sym (append_assoc (ended r.lines) (ended p.lines) p.part)
            ∙ ap (λ l. l ++ p.part) (sym (ended_then r.lines p.lines));
        caused = caused_then why (es ++ read bytes ∷ []) fs last;
      }

  ends_broken : (T : Type 0) (bytes : List ℕ) (why : Stopped) (fs : List Event) → OnlyWrites fs
      → BreaksAll t bytes why (bytes_written fs) → Caused why fs
      → Ends {T = T} s (Err why) (heard es bytes fs)
  ends_broken T bytes (Input e) fs only all last = absurd last
  ends_broken T bytes (Output e) fs only all last = broken bytes (Output e) fs only all last
  ends_broken T bytes (Memory e) fs only all last = broken bytes (Memory e) fs only all last
  ends_broken T bytes Spent fs only all last = absurd last

  -- It ends at the input's end, within a piece, at a read that fails, and where nobody counts further.
  pub ends_closed : (T : Type 0) (result : Result T Stopped) (fs : List Event) → Finishes t result fs
      → Conversation s result (heard es [] fs)
  ends_closed T (Ok x) fs (only, all) =
      record { prompt = prompt_heard [] fs only; ends = completed fs only all }
  ends_closed T (Err why) fs (only, all, last) =
      record { prompt = prompt_heard [] fs only; ends = ends_broken T [] why fs only all last }

  pub ends_within : (S T : Type 0) (u : Transcript) (bytes : List ℕ) (why : Stopped) (fs : List Event)
      → Feeds {T = S} t u bytes (Err why) fs
      → Conversation {T = T} s (Err why) (heard es bytes fs)
  ends_within S T u bytes why fs (only, all, last) =
      record { prompt = prompt_heard bytes fs only; ends = ends_broken T bytes why fs only all last }

  pub ends_unread : (T : Type 0) (e : Error) → Conversation {T = T} s (Err (Input e))
      (es ++ read_failed e ∷ [])
  ends_unread T e = record {
    prompt = then_read (read_failed e) r.prompt (up_to_date s t es r);
    ends = record { before = es; failure = refl; answers = up_to_date s t es r };
  }

  pub ends_spent : (T : Type 0) → 2 ^ 64 - 1 ≤ length (bytes_read es) → Conversation {T = T} s (Err Spent) es
  ends_spent T many = record {
    prompt = r.prompt;
    ends = record { answers = up_to_date s t es r; many = many };
  }

-- Writes after the end read no more.
pub reads_no_more : {T : Type 0} (a : Option (List ℕ)) (t : Transcript) (result : Result T Stopped)
    (es fs : List Event) → ReadsAll a es → Finishes t result fs
    → OnOk result (ReadsAll a (es ++ fs))
reads_no_more None t (Ok x) es fs all finishes = tt
reads_no_more (Some input) t (Ok x) es fs all finishes = read_then es fs
    ∙ ap (λ l. bytes_read es ++ l) (none_read fs finishes.0) ∙ append-nil (bytes_read es) ∙ all
reads_no_more a t (Err why) es fs all finishes = tt

-- Before the first read.
pub ends_first : (T : Type 0) (s : Session) (e : AllocError) → Conversation {T = T} s (Err (Memory e)) []
ends_first T s e = record {
  prompt = at_first;
  ends = record {
    done = [];
    rest = [];
    split = refl;
    number = 1;
    left = [];
    lines = [];
    part = [];
    answers = begun tt;
    begins = nothing_of_it;
    written = refl;
    caused = tt;
  };
}
