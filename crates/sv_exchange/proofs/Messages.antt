-- Which messages a stream carries.
use Rattle.std.proofs.Common.{◌≡◌, ℕ, List, [], ◌∷◌, ◌++◌, length, map, None, Result, Ok, refl, sym, ap, ◌∙◌, append_assoc, arith, length-append}
use Rattle.std.specs.List.{AllByRecursion}
use Rattle.std.proofs.lemmas.List.{append-nil, map-append}
use Rattle.sv_frame.specs.Frames.{frame, frames_of, FitsFrame, first_frame}
use Rattle.sv_frame.proofs.Fronts.{length-frame, first_frame-frame}
use Rattle.sv_frame.proofs.Splitting.{split-all_frames, frames-apart}
use Rattle.sv_exchange.specs.Carried.{message_before, messages_of, messages_in, IsStreamOf}

-- what is written is read back, and has a frame
pub record Spells {M E : Type 0} (IsMessage : M → Type 0) (spell : M → List ℕ) (read : List ℕ → Result M E) : Type 0 where
  pub back : (m : M) → IsMessage m → read (spell m) ≡ Ok m
  pub fits : (m : M) → IsMessage m → FitsFrame (spell m)

all_read : {M E : Type 0} (IsMessage : M → Type 0) (spell : M → List ℕ) (read : List ℕ → Result M E) → Spells IsMessage spell read → (ms : List M) → AllByRecursion IsMessage ms → messages_of read (map spell ms) ≡ ms
all_read IsMessage spell read s [] each = refl
all_read IsMessage spell read s (m ∷ ms) each =
    ap (λ r. message_before r (messages_of read (map spell ms))) (s.back m each.0) ∙ ap (λ l. m ∷ l) (all_read IsMessage spell read s ms each.1)

all_fit : {M E : Type 0} (IsMessage : M → Type 0) (spell : M → List ℕ) (read : List ℕ → Result M E) → Spells IsMessage spell read → (ms : List M) → AllByRecursion IsMessage ms → AllByRecursion FitsFrame (map spell ms)
all_fit IsMessage spell read s [] each = tt
all_fit IsMessage spell read s (m ∷ ms) each = (s.fits m each.0, all_fit IsMessage spell read s ms each.1)

-- the messages of a stream are read in it
pub messages_are : {M E : Type 0} (IsMessage : M → Type 0) (spell : M → List ℕ) (read : List ℕ → Result M E) → Spells IsMessage spell read → (ms : List M) (stream : List ℕ) → IsStreamOf IsMessage spell ms stream → messages_in read stream ≡ ms
messages_are IsMessage spell read s ms stream is =
    ap (messages_in read) is.whole
    ∙ (ap (λ (split : List (List ℕ) × List ℕ). messages_of read split.0) (split-all_frames (map spell ms) (all_fit IsMessage spell read s ms is.each)) ∙ all_read IsMessage spell read s ms is.each)

frames-last : (ps : List (List ℕ)) (p : List ℕ) → frames_of (ps ++ p ∷ []) ≡ frames_of ps ++ frame p
frames-last [] p = append-nil (frame p)
frames-last (q ∷ ps) p = ap (λ l. frame q ++ l) (frames-last ps p) ∙ sym (append_assoc (frame q) (frames_of ps) (frame p))

all_last : {M : Type 0} (IsMessage : M → Type 0) (ms : List M) (m : M) → AllByRecursion IsMessage ms → IsMessage m → AllByRecursion IsMessage (ms ++ m ∷ [])
all_last IsMessage [] m each is = (is, tt)
all_last IsMessage (n ∷ ms) m each is = (each.0, all_last IsMessage ms m each.1 is)

-- nothing is carried at first
pub carried_none : {M : Type 0} (IsMessage : M → Type 0) (spell : M → List ℕ) → IsStreamOf IsMessage spell [] []
carried_none IsMessage spell = record { whole = refl; each = tt }

-- one more message goes to the end
pub carried_last : {M : Type 0} (IsMessage : M → Type 0) (spell : M → List ℕ) (ms : List M) (m : M) (stream : List ℕ) → IsStreamOf IsMessage spell ms stream → IsMessage m → IsStreamOf IsMessage spell (ms ++ m ∷ []) (stream ++ frame (spell m))
carried_last IsMessage spell ms m stream so_far is =
    record {
      whole = ap (λ l. l ++ frame (spell m)) so_far.whole ∙ (sym (frames-last (map spell ms) (spell m)) ∙ ap frames_of (sym (map-append spell ms (m ∷ []))));
      each = all_last IsMessage ms m so_far.each is;
    }

-- no message is left where the stream begins with no frame
pub carried_end : {M E : Type 0} (IsMessage : M → Type 0) (spell : M → List ℕ) (read : List ℕ → Result M E) → Spells IsMessage spell read → (ms : List M) (stream : List ℕ) → IsStreamOf IsMessage spell ms stream → first_frame stream ≡ None → ms ≡ []
carried_end IsMessage spell read s [] stream is none = refl
carried_end IsMessage spell read s (m ∷ ms) stream is none =
    let found = first_frame-frame (spell m) (frames_of (map spell ms)) (s.fits m is.each.0) in
    let same : first_frame stream ≡ first_frame (frame (spell m) ++ frames_of (map spell ms)) = ap first_frame is.whole in
    absurd cc

-- the message whose payload comes first, and those after it
pub record ComesFirst {M : Type 0} (IsMessage : M → Type 0) (spell : M → List ℕ) (ms : List M) (payload rest : List ℕ) : Type 0 where
  pub first : M
  pub others : List M
  pub list : ms ≡ first ∷ others
  pub is_message : IsMessage first
  pub spelled : payload ≡ spell first
  pub stream : IsStreamOf IsMessage spell others rest

pub carried_first : {M E : Type 0} (IsMessage : M → Type 0) (spell : M → List ℕ) (read : List ℕ → Result M E) → Spells IsMessage spell read → (ms : List M) (payload rest : List ℕ) → IsStreamOf IsMessage spell ms (frame payload ++ rest) → FitsFrame payload → ComesFirst IsMessage spell ms payload rest
carried_first IsMessage spell read s [] payload rest is fits =
    absurd (omega (arith, ap length is.whole, length-append (frame payload) rest, length-frame payload))
carried_first IsMessage spell read s (m ∷ ms) payload rest is fits =
    let apart = frames-apart payload (spell m) rest (frames_of (map spell ms)) fits (s.fits m is.each.0) is.whole in
    record {
      first = m;
      others = ms;
      list = refl;
      is_message = is.each.0;
      spelled = apart.0;
      stream = record { whole = apart.1; each = is.each.1 };
    }
