use Rattle.std.proofs.Common.{rules, ◌≡◌, ◌+◌, ◌-◌, length, take, ◌∙◌, sym, arith, length-take}
use Rattle.std.proofs.lemmas.Slice.{put_mid-paste}
use Rattle.std.proofs.lemmas.List.Edits.{paste_all}
use Rattle.text.specs.Buffers.{behind}
use Rattle.text.proofs.Slices.{put_slices}
use Rattle.text.proofs.sheet.Sheet.put_piece.Goals as goal

pub returns : goal.returns
unfolding behind
returns c =
    let bytes = c.args.bytes.now in
    let out = c.args.self.now.out.now in
    let start = c.min-start.result in
    let count = c.min-count.result in
    let long : count ≡ length (take count bytes) = omega (arith, c.min-count.ensures, length-take count bytes) in
    record {
      puts = record {
        end_is = search rules;
        after_is =
            put_mid-paste start (start + count - start) out c.copy_from_slice.new.self (take count bytes) count c.copy_from_slice.ensures.after (omega arith) long
            ∙ paste_all out start (take count bytes) count long
            ∙ sym (put_slices out c.args.self.now.at bytes start count c.min-start.ensures c.min-count.ensures);
      };
      same_buffer = search rules;
    }
