use Rattle.std.proofs.Common.{◌++◌, cond, Ok, Err, map, take, sym, ap, ◌∙◌, subst}
use Rattle.coding.specs.Codes.{recode}
use Rattle.store.specs.Held.{with_unit}
use Rattle.store.specs.Leaves.{PutLeaves}
use Rattle.refusals.specs.Numbers.{numbered}
use Rattle.refusals.specs.declared.Refusal.TheVariants.{NoCapacity}
use Rattle.cuts.proofs.Putting.{by_number}
use Rattle.cuts.specs.Lists.{memory, table, opened, takes}
use Rattle.wtf8.specs.Views.{cells, ends, laid_with, finished, meaning}
use Rattle.wtf8.proofs.Steps.{fits_is, put_bytes, fresh_with, held_with}
use Rattle.wtf8.proofs.Cells.{put_laid}
use Rattle.wtf8.proofs.acts.Wtf8ValueStore.put.Goals as goal

pub invariant_of-self : goal.invariant_of-self
invariant_of-self c =
    let s = c.args.self.now in
    let e = c.put_behind.ensures in
    let k = c.completed-kept in
    let o = opened s.cuts in
    let bytes = c.encoded.result.now in
    let w = put_bytes o c.open_bytes-open.result.now c.last_half.result c.args.unit k.result.0 k.result.1 bytes s.fresh c.open_bytes-open.ensures c.last_half.ensures k.ensures.place k.ensures.code (c.encoded.ensures.bytes k.ensures.small) in
    let b = takes s.cuts (take k.result.0 o ++ bytes) in
    record {
      whole = ap (map recode) e.lists.lists ∙ s.whole ∙ sym e.lists.lists;
      fresh = fresh_with s.cuts c.put_behind.new.self c.args.unit b c.ranges.unit.fits s.fresh (e.draft ∙ ap (λ t. cond b t o) w);
    }

pub returns-clause-answer : goal.returns-clause-answer
returns-clause-answer c =
    let s = c.args.self.now in
    let k = c.completed-kept in
    let w = put_bytes (opened s.cuts) c.open_bytes-open.result.now c.last_half.result c.args.unit k.result.0 k.result.1 c.encoded.result.now s.fresh c.open_bytes-open.ensures c.last_half.ensures k.ensures.place k.ensures.code (c.encoded.ensures.bytes k.ensures.small) in
    ap numbered c.put_behind.ensures.answer ∙ by_number (takes s.cuts (take k.result.0 (opened s.cuts) ++ c.encoded.result.now)) tt NoCapacity ∙ ap (λ b. cond b (Ok tt) (Err 12)) (ap (takes s.cuts) w ∙ sym (fits_is s c.args.unit))

pub returns-clause-after : goal.returns-clause-after
returns-clause-after c =
    let s = c.args.self.now in
    let e = c.put_behind.ensures in
    let k = c.completed-kept in
    let o = opened s.cuts in
    let bytes = c.encoded.result.now in
    let w = put_bytes o c.open_bytes-open.result.now c.last_half.result c.args.unit k.result.0 k.result.1 bytes s.fresh c.open_bytes-open.ensures c.last_half.ensures k.ensures.place k.ensures.code (c.encoded.ensures.bytes k.ensures.small) in
    let b = takes s.cuts (take k.result.0 o ++ bytes) in
    held_with s.cuts c.put_behind.new.self c.args.unit b c.ranges.unit.fits e.lists.lists (e.draft ∙ ap (λ t. cond b t o) w) e.stays.places e.stays.capacity
    ∙ ap (λ b. cond b (with_unit (meaning s) c.args.unit) (meaning s)) (ap (takes s.cuts) w ∙ sym (fits_is s c.args.unit))

pub returns-clause-cells : goal.returns-clause-cells
returns-clause-cells c =
    let s = c.args.self.now in
    let k = c.completed-kept in
    let o = c.open_bytes-open in
    let w = put_bytes (opened s.cuts) o.result.now c.last_half.result c.args.unit k.result.0 k.result.1 c.encoded.result.now s.fresh o.ensures c.last_half.ensures k.ensures.place k.ensures.code (c.encoded.ensures.bytes k.ensures.small) in
    let l = put_laid s o.result.now c.last_half.result c.args.unit k.result.0 k.result.1 c.encoded.result.now o.ensures c.last_half.ensures k.ensures.place k.ensures.code (c.encoded.ensures.bytes k.ensures.small) in
    c.put_behind.ensures.memory
    ∙ ap (λ t. cond (takes s.cuts (take k.result.0 (opened s.cuts) ++ c.encoded.result.now)) t (cells s)) l
    ∙ ap (λ b. cond b (laid_with s c.args.unit) (cells s)) (ap (takes s.cuts) w ∙ sym (fits_is s c.args.unit))

pub returns-clause-leaves : goal.returns-clause-leaves
returns-clause-leaves c =
    let s = c.args.self.now in
    let k = c.completed-kept in
    let w = put_bytes (opened s.cuts) c.open_bytes-open.result.now c.last_half.result c.args.unit k.result.0 k.result.1 c.encoded.result.now s.fresh c.open_bytes-open.ensures c.last_half.ensures k.ensures.place k.ensures.code (c.encoded.ensures.bytes k.ensures.small) in
    subst (λ b. PutLeaves b (finished s) (cells s) (memory c.put_behind.new.self) (ends s) (table c.put_behind.new.self)) (ap (takes s.cuts) w ∙ sym (fits_is s c.args.unit)) c.put_behind.ensures.leaves
