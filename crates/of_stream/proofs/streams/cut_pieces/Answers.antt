use Rattle.std.proofs.Common.{◌≡◌, ◌⊎◌, ◌+◌, ◌<◌, List, ℕ, ◌++◌, [], ◌∷◌, length, take, get_or, sym, ap, subst, ◌∙◌, append_assoc, arith}
use Rattle.std.specs.List.{concat}
use Rattle.std.proofs.lemmas.List.{append-nil, take_all, take_more}
use Rattle.std.proofs.lemmas.List.Folds.{concat-append}
use Rattle.of_stream.specs.Frames.{IsPartial, IsBroken, stream_of, Cuts}
use Rattle.of_stream.specs.laws.FrameLaws.{one_cut}
use Rattle.of_stream.proofs.streams.cut_pieces.Goals as goal

concat_more : (pieces : List (List ℕ)) (i : ℕ) (piece : List ℕ) → i < length pieces → piece ≡ get_or pieces i piece → concat (take (i + 1) pieces) ≡ concat (take i pieces) ++ piece
concat_more pieces i piece lt is =
    ap concat (take_more pieces i piece lt) ∙ concat-append (take i pieces) (get_or pieces i piece ∷ []) ∙ ap (λ (xs : List ℕ). concat (take i pieces) ++ xs) (append-nil (get_or pieces i piece) ∙ sym is)

pub loop-piece-preserved : goal.loop-piece-preserved
loop-piece-preserved c =
    let frames = c.loop-piece.frames.items in
    let held = c.loop-piece.cutter in
    let piece = c.piece-item.result in
    let more = concat_more c.args.pieces.now c.loop-piece.piece-index piece (omega arith) c.piece-item.is in
    let fed : c.feed.new.self ≡ held ++ piece = c.in_ok-feed.ensures.ok ∙ ap (λ (xs : List ℕ). held ++ xs) c.as_slice.ensures in
    record {
      stream =
          c.in_ok-take_frames.ensures.stream ∙ ap (stream_of frames) fed ∙ sym (append_assoc (concat frames) held piece)
          ∙ ap (λ (xs : List ℕ). xs ++ piece) c.loop-piece.invariant.stream ∙ sym more;
      each = c.in_ok-take_frames.ensures.each c.loop-piece.invariant.each;
      over = c.in_ok-take_frames.ensures.over;
    }

pub returns-clause-only : goal.returns-clause-only
returns-clause-only c frames rest cut =
    let pieces = c.args.pieces.now in
    let all : take c.loop-piece.piece-index pieces ≡ pieces = take_all c.loop-piece.piece-index pieces (omega arith) in
    let left : c.in_ok-rest.rest ≡ c.loop-piece.cutter = c.in_ok-rest.ensures ∙ c.held.ensures in
    let mine : Cuts (concat pieces) c.loop-piece.frames.items c.in_ok-rest.rest = record {
      whole = sym (ap concat all) ∙ sym c.loop-piece.invariant.stream ∙ ap (stream_of c.loop-piece.frames.items) (sym left);
      each = c.loop-piece.invariant.each;
      over = subst (λ (s : List ℕ). IsPartial s ⊎ IsBroken s) (sym left) c.loop-piece.invariant.over;
    } in
    one_cut (concat pieces) c.loop-piece.frames.items frames c.in_ok-rest.rest rest mine cut
