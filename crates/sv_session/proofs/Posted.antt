-- Bytes that are sent, and bytes that are not.
use Rattle.std.proofs.Common.{◌≡◌, ◌≢◌, inl, inr, Bool, true, ℕ, ◌<◌, ◌≤◌, List, [], ◌++◌, length, take, drop, Option, Some, refl, sym, ap, ◌∙◌, append_assoc, append-nil, length-append, length-take, arith}
use Rattle.std.proofs.lemmas.List.{take-append-drop, take_all}
use mathlib.Core.List.{IsPrefix}
use Rattle.sv_frame.specs.Frames.{frame}
use Rattle.sv_frame.proofs.Fronts.{length-frame}
use Rattle.sv_link.specs.Ends.{Told, sending, Sends}
use Rattle.sv_link.specs.declared.ends.Sent.{Sent}
use Rattle.sv_link.specs.declared.ends.Sent.TheVariants as answers
use Rattle.sv_exchange.specs.Outgoing.{Posts}
use Rattle.sv_session.specs.Serving.{ended_by}
use Rattle.sv_session.specs.Rounds.{IsBroken, PostsOn, PostsLast, ReadsLast}
use Rattle.sv_session.specs.declared.outcome.SessionOut.{SessionOut}
use Rattle.sv_session.specs.declared.outcome.SessionOut.TheVariants as outs

front : (xs : List ℕ) (n : ℕ) → IsPrefix (take n xs) xs
front xs n = (drop n xs, take-append-drop n xs)

front_more : (a b c : List ℕ) → IsPrefix a b → IsPrefix a (b ++ c)
front_more a b c p = (p.0 ++ c, sym (append_assoc a p.0 c) ∙ ap (λ l. l ++ c) p.1)

shorter : (a b : List ℕ) → length a < length b → a ≢ b
shorter a b less same = omega (arith, less, ap length same)

front_length : (a b : List ℕ) → IsPrefix a b → length a ≤ length b
front_length a b p = omega (arith, length-append a p.0, ap length p.1)

told_twice : (told : Told) (a b : List ℕ) → sending (sending told a) b ≡ sending told (a ++ b)
told_twice told a b = ap (λ (l : List ℕ). record told { sent = l }) (append_assoc told.sent a b)

-- the frame was not put
pub put_failed : (old : Told) (waiting payload : List ℕ) (answer : Sent) (new : Told) (left : List ℕ) (stop : Option SessionOut) (out : SessionOut) → Posts old waiting (frame payload) answer new left →
    answer ≢ answers.Whole → IsBroken out → PostsLast old (waiting ++ frame payload) stop out new
put_failed old waiting payload answer new left stop out puts not_whole broken =
    record {
      sent = puts.sent;
      told = puts.told;
      part = front_more puts.sent waiting (frame payload) (puts.part not_whole);
      why = inr (broken, shorter puts.sent (waiting ++ frame payload) (omega (arith, front_length puts.sent waiting (puts.part not_whole), length-append waiting (frame payload), length-frame payload)));
    }

-- the frame was put, and the loop goes on
pub put_whole : (old : Told) (waiting payload : List ℕ) (new : Told) (left : List ℕ) → Posts old waiting (frame payload) answers.Whole new left → PostsOn old (waiting ++ frame payload) new left
put_whole old waiting payload new left puts = record { sent = puts.sent; told = puts.told; all = puts.whole refl }

module _ (old : Told) (due : List ℕ) (mid : Told) (waits : List ℕ) (posts : PostsOn old due mid waits) (new : Told) where
  -- then all that waited was sent
  pub flushed : (reason : SessionOut) → Sends mid waits answers.Whole new → PostsLast old due (Some reason) reason new
  flushed reason sends =
      let all : take sends.size waits ≡ waits = take_all sends.size waits (omega (arith, sends.whole refl)) in
      let sent : posts.sent ++ take sends.size waits ≡ due = ap (λ l. posts.sent ++ l) all ∙ posts.all in
      record {
        sent = posts.sent ++ take sends.size waits;
        told = sends.grew ∙ (ap (λ (t : Told). sending t (take sends.size waits)) posts.told ∙ told_twice old posts.sent (take sends.size waits));
        part = ([], append-nil (posts.sent ++ take sends.size waits) ∙ sent);
        why = inl (refl, sent);
      }

  -- or not all
  pub flush_failed : (answer : Sent) (stop : Option SessionOut) (out : SessionOut) → Sends mid waits answer new → answer ≢ answers.Whole → IsBroken out → PostsLast old due stop out new
  flush_failed answer stop out sends not_whole broken =
      let f = front waits sends.size in
      record {
        sent = posts.sent ++ take sends.size waits;
        told = sends.grew ∙ (ap (λ (t : Told). sending t (take sends.size waits)) posts.told ∙ told_twice old posts.sent (take sends.size waits));
        part = (f.0, append_assoc posts.sent (take sends.size waits) f.0 ∙ (ap (λ l. posts.sent ++ l) f.1 ∙ posts.all));
        why = inr (
          broken,
          shorter (posts.sent ++ take sends.size waits) due
              (omega (arith, length-append posts.sent (take sends.size waits), length-take sends.size waits, sends.part not_whole, length-append posts.sent waits, ap length posts.all)),
        );
      }

-- ---- Reading on

pub sent_all : (old : Told) (due : List ℕ) (new : Told) → Sends old due answers.Whole new → new ≡ sending old due
sent_all old due new sends = sends.grew ∙ ap (λ l. sending old l) (take_all sends.size due (omega (arith, sends.whole refl)))

ended_broken : (out : SessionOut) (b : Bool) → IsBroken out → ended_by out b ≡ b
ended_broken out b (inl is) = ap (λ o. ended_by o b) is
ended_broken out b (inr is) = ap (λ o. ended_by o b) is

pub unsent : (old : Told) (due : List ℕ) (answer : Sent) (new : Told) (out : SessionOut) → Sends old due answer new → IsBroken out → ReadsLast old due out new
unsent old due answer new out sends broken =
    record {
      sent = take sends.size due;
      told = sends.grew ∙ ap (λ (b : Bool). record old { sent = old.sent ++ take sends.size due; ended = b }) (sym (ended_broken out old.ended broken));
      part = front due sends.size;
      why = inr broken;
    }

pub unread : (old : Told) (due : List ℕ) (mid new : Told) (out : SessionOut) → mid ≡ sending old due → new ≡ mid → IsBroken out → ReadsLast old due out new
unread old due mid new out sent same broken =
    record {
      sent = due;
      told = same ∙ (sent ∙ ap (λ (b : Bool). record old { sent = old.sent ++ due; ended = b }) (sym (ended_broken out old.ended broken)));
      part = ([], append-nil due);
      why = inr broken;
    }

pub read_ended : (old : Told) (due : List ℕ) (mid new : Told) → mid ≡ sending old due → new ≡ record mid { ended = true } → ReadsLast old due outs.Closed new
read_ended old due mid new sent ended =
    record {
      sent = due;
      told = ended ∙ ap (λ (t : Told). record t { ended = true }) sent;
      part = ([], append-nil due);
      why = inl (refl, refl);
    }
