use Rattle.std.proofs.Common.{◌∙◌, sym, ap, ℕ, List, ◌++◌, ◌∷◌, []}
use Rattle.thrift_compact.specs.Coded.{list_bytes, fields_coded}
use Rattle.footer_structs.specs.FooterWriting.{back_fields}
use Rattle.footer_structs.proofs.Frames.{frame_len}
use Rattle.footer_structs.proofs.footer_writing.append_frame.Goals as goal

pub returns : goal.returns
returns c = λ gs e.
    let front : List ℕ = c.append_front.new.into.items in
    let back : List ℕ = fields_coded 4 (back_fields c.args.meta.now) in
    let header = c.in_ok-append_list_header.ensures.ok ∙ ap (λ (bs : List ℕ). bs ++ list_bytes 12 c.args.groups) c.in_ok-push.ensures.items in
    let made = c.in_ok-append_back.ensures.ok ∙ ap (λ (bs : List ℕ). bs ++ back) header ∙ ap (λ (n : ℕ). ((front ++ 0x19 ∷ []) ++ list_bytes 12 n) ++ back) (sym e) in
    frame_len c.args.meta.now gs c.args.into.now.items front c.append_back.new.into.items c.in_ok-append_front.ensures.ok made
