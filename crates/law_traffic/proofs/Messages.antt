-- Frames of messages that were cut: the messages that came are the first of those that were sent.
use Rattle.std.proofs.Common.{◌≡◌, ℕ, List, [], ◌∷◌, ◌++◌, map, drop, get_or, Result, Ok, refl, sym, ap, ap₂, subst, ◌∙◌, append_assoc, append-nil}
use Rattle.std.specs.List.{AllByRecursion}
use Rattle.std.proofs.lemmas.List.{map-append, append_cancel_left}
use Rattle.std.proofs.lemmas.Grind.{flat_map-append}
use mathlib.Core.List.{IsPrefix}
use Rattle.sv_frame.specs.Frames.{frame, frames_of, FitsFrame, too_long}
use Rattle.sv_frame.specs.Streams.{split_frames, incoming_items, too_long_item}
use Rattle.sv_frame.specs.Streams.StreamItem.{Payload}
use Rattle.sv_frame.proofs.Splitting.{split-frames_of}
use Rattle.sv_wire.specs.declared.fault.Malformed.{Malformed}
use Rattle.sv_wire.specs.declared.message.Request.{Request}
use Rattle.sv_wire.specs.declared.message.Reply.{Reply}
use Rattle.sv_wire.specs.Messages.{reply_at}
use Rattle.sv_wire.specs.Spelling.{request_bytes, reply_bytes}
use Rattle.sv_wire.specs.Laws.{IsRequest, IsReply}
use Rattle.sv_exchange.proofs.Sizes.{request_short, reply_short, request_back, reply_back}
use Rattle.sv_exchange.specs.Incoming.{read_or_bad}
use Rattle.sv_session.specs.Requests.{request_for, requests_read}
use Rattle.law_traffic.specs.Cuts.{IsCutStream}
use Rattle.sv_player.specs.Carried.{request_frames, was_read, BeginsWithReplies}
use Rattle.law_system.proofs.Every.{each-left}
use Rattle.law_traffic.specs.Traffic.{reply_frames}
use Rattle.law_traffic.proofs.Cuts.{cut_frames_are_front_frames}

-- ---- Parts of lists

-- A list whose images part so parts itself.
pub record IsParted {X Y : Type 0} (f : X → Y) (all : List X) (front back : List Y) : Type 0 where
  pub first : List X
  pub second : List X
  pub are : all ≡ first ++ second
  pub front_is : map f first ≡ front
  pub back_is : map f second ≡ back

pub parted : {X Y : Type 0} (f : X → Y) (all : List X) (front back : List Y) → map f all ≡ front ++ back → IsParted f all front back
parted f all [] back e = record { first = []; second = all; are = refl; front_is = refl; back_is = e }
parted f [] (y ∷ front) back e = cc
parted f (x ∷ all) (y ∷ front) back e =
    let rest = parted f all front back (ap (drop 1) e) in
    record {
      first = x ∷ rest.first;
      second = rest.second;
      are = ap (λ l. x ∷ l) rest.are;
      front_is = ap₂ (λ a l. a ∷ l) (ap (λ l. get_or l 0 y) e) rest.front_is;
      back_is = rest.back_is;
    }

-- ---- Frames

pub frames_both : (xs ys : List (List ℕ)) → frames_of (xs ++ ys) ≡ frames_of xs ++ frames_of ys
frames_both xs ys = flat_map-append frame xs ys

pub request_frames_are : (qs : List Request) → request_frames qs ≡ frames_of (map request_bytes qs)
unfolding request_frames
request_frames_are qs = refl

pub reply_frames_are : (ws : List Reply) → reply_frames ws ≡ frames_of (map reply_bytes ws)
unfolding reply_frames
reply_frames_are ws = refl

pub reply_frames_both : (xs ys : List Reply) → reply_frames (xs ++ ys) ≡ reply_frames xs ++ reply_frames ys
unfolding reply_frames
reply_frames_both xs ys = ap frames_of (map-append reply_bytes xs ys) ∙ flat_map-append frame (map reply_bytes xs) (map reply_bytes ys)

-- ---- Messages are read back

pub requests_fit : (qs : List Request) → AllByRecursion IsRequest qs → AllByRecursion FitsFrame (map request_bytes qs)
requests_fit [] all = tt
requests_fit (q ∷ qs) all = (request_short q all.0, requests_fit qs all.1)

replies_fit : (ws : List Reply) → AllByRecursion IsReply ws → AllByRecursion FitsFrame (map reply_bytes ws)
replies_fit [] all = tt
replies_fit (w ∷ ws) all = (reply_short w all.0, replies_fit ws all.1)

requests_back : (qs : List Request) → AllByRecursion IsRequest qs → map request_for (map Payload (map request_bytes qs)) ≡ qs
requests_back [] all = refl
requests_back (q ∷ qs) all = ap₂ (λ a l. a ∷ l) (ap read_or_bad (request_back q all.0)) (requests_back qs all.1)

replies_back : (ws : List Reply) → AllByRecursion IsReply ws → map reply_at (map reply_bytes ws) ≡ map was_read ws
replies_back [] all = refl
replies_back (w ∷ ws) all = ap₂ (λ a l. a ∷ l) (reply_back w all.0) (replies_back ws all.1)

-- ---- Requests that came

-- What came of the frames of requests: the first of them, and less than a frame.
pub record AreTaken (asked : List Request) (stream : List ℕ) : Type 0 where
  pub first : List Request
  pub second : List Request
  pub are : asked ≡ first ++ second
  pub came : requests_read stream ≡ first
  pub items : incoming_items stream ≡ map Payload (map request_bytes first)
  pub rest : List ℕ
  pub whole : stream ≡ request_frames first ++ rest

items_of : (stream : List ℕ) (payloads : List (List ℕ)) (c : IsCutStream payloads stream) → incoming_items stream ≡ map Payload c.taken
unfolding incoming_items
items_of stream payloads c =
    ap (λ (split : List (List ℕ) × List ℕ). map Payload split.0 ++ too_long_item (too_long split.1)) c.split
    ∙ (ap (λ o. map Payload c.taken ++ too_long_item o) c.none ∙ append-nil (map Payload c.taken))

came_by : (stream : List ℕ) → requests_read stream ≡ map request_for (incoming_items stream)
unfolding requests_read
came_by stream = refl

pub taken : (asked : List Request) (stream : List ℕ) → AllByRecursion IsRequest asked → IsPrefix stream (request_frames asked) → AreTaken asked stream
taken asked stream messages p =
    let frames : IsPrefix stream (frames_of (map request_bytes asked)) = (p.0, p.1 ∙ request_frames_are asked) in
    let c = cut_frames_are_front_frames (map request_bytes asked) stream (requests_fit asked messages) frames in
    let part = parted request_bytes asked c.taken c.left c.are in
    let fine = each-left IsRequest part.first part.second (subst (AllByRecursion IsRequest) part.are messages) in
    let items : incoming_items stream ≡ map Payload (map request_bytes part.first) = items_of stream (map request_bytes asked) c ∙ ap (λ l. map Payload l) (sym part.front_is) in
    record {
      first = part.first;
      second = part.second;
      are = part.are;
      came = came_by stream ∙ (ap (λ l. map request_for l) items ∙ requests_back part.first fine);
      items = items;
      rest = c.rest;
      whole = c.whole ∙ ap (λ (l : List (List ℕ)). frames_of l ++ c.rest) (sym part.front_is) ∙ ap (λ (l : List ℕ). l ++ c.rest) (sym (request_frames_are part.first));
    }

-- ---- Replies that came

pub same_reply : (x y : Reply) → ◌≡◌ {A = Result Reply Malformed} (Ok x) (Ok y) → x ≡ y
same_reply x y e = ap value e
  where
    value : Result Reply Malformed → Reply
    value (Ok w) = w
    value _ = x

same_read : (xs ys : List Reply) → map was_read xs ≡ map was_read ys → xs ≡ ys
same_read [] [] e = refl
same_read [] (y ∷ ys) e = cc
same_read (x ∷ xs) [] e = cc
same_read (x ∷ xs) (y ∷ ys) e = ap₂ (λ a l. a ∷ l) (same_reply x y (ap (λ l. get_or l 0 (was_read x)) e)) (same_read xs ys (ap (drop 1) e))

-- The replies that were got of the frames of replies: the first of them, and the frames of the others may have come in part.
pub record AreGot (sent : List Reply) (stream : List ℕ) (gots : List Reply) (rest : List ℕ) : Type 0 where
  pub more : List Reply
  pub are : sent ≡ gots ++ more
  pub whole : stream ≡ reply_frames gots ++ rest
  pub next : IsPrefix rest (reply_frames more)

pub got_first : (sent : List Reply) (stream : List ℕ) (gots : List Reply) (rest : List ℕ) → AllByRecursion IsReply sent → IsPrefix stream (reply_frames sent) → BeginsWithReplies stream gots rest →
    AreGot sent stream gots rest
got_first sent stream gots rest messages p b =
    let frames : IsPrefix stream (frames_of (map reply_bytes sent)) = (p.0, p.1 ∙ reply_frames_are sent) in
    let c = cut_frames_are_front_frames (map reply_bytes sent) stream (replies_fit sent messages) frames in
    let split = sym c.split ∙ (ap split_frames b.whole ∙ split-frames_of b.payloads rest b.fit) in
    let came : c.taken ≡ b.payloads ++ (split_frames rest).0 = ap (λ (q : List (List ℕ) × List ℕ). q.0) split in
    let all : map reply_bytes sent ≡ b.payloads ++ ((split_frames rest).0 ++ c.left) =
    c.are ∙ (ap (λ (l : List (List ℕ)). l ++ c.left) came ∙ append_assoc b.payloads (split_frames rest).0 c.left) in
    let part = parted reply_bytes sent b.payloads ((split_frames rest).0 ++ c.left) all in
    let fine = each-left IsReply part.first part.second (subst (AllByRecursion IsReply) part.are messages) in
    let first : part.first ≡ gots = same_read part.first gots (sym (replies_back part.first fine) ∙ (ap (λ l. map reply_at l) part.front_is ∙ b.read)) in
    let are : sent ≡ gots ++ part.second = part.are ∙ ap (λ (l : List Reply). l ++ part.second) first in
    let whole : stream ≡ reply_frames gots ++ rest =
    b.whole ∙ ap (λ (l : List ℕ). l ++ rest) (ap frames_of (sym part.front_is) ∙ (sym (reply_frames_are part.first) ∙ ap reply_frames first)) in
    record {
      more = part.second;
      are = are;
      whole = whole;
      next = next part.second are whole;
    }
  where
    next : (more : List Reply) → sent ≡ gots ++ more → stream ≡ reply_frames gots ++ rest → IsPrefix rest (reply_frames more)
    next more are whole = (
      p.0,
      append_cancel_left (reply_frames gots) (rest ++ p.0) (reply_frames more)
          (sym (append_assoc (reply_frames gots) rest p.0) ∙ (ap (λ (l : List ℕ). l ++ p.0) (sym whole) ∙ (p.1 ∙ (ap reply_frames are ∙ reply_frames_both gots more)))),
    )
