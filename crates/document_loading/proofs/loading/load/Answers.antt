use Rattle.std.proofs.Common.{refl}
use Rattle.std.specs.Prelude.{Ok, Err}
use Rattle.store_write.specs.Writers.{broken_by}
use Rattle.store_write.proofs.Steps.{starting, ending}
use Rattle.command_parsing.specs.Commands.{load_of}
use Rattle.document_loading.proofs.LoadEnds.{can_be_chosen, has_begun, is_at, still_there, not_started, stopped, ended, not_ended, not_taken}
use Rattle.document_loading.proofs.loading.load.Goals as goal

pub start-requires-clause-settings : goal.start-requires-clause-settings
start-requires-clause-settings g c = can_be_chosen c.args.asked c.settings_of-settings.result c.requires.pages c.settings_of-settings.ensures

pub hand_on-requires : goal.hand_on-requires
hand_on-requires g c =
    let load = load_of c.args.asked in
    let first = g.S.Shelf.seen c.args.shelf.now in
    let s = g.S.Shelf.seen c.start.new.shelf in
    let w = c.in-Ok.writer in
    let begun = starting first s load.out load.schema c.settings_of-settings.result (Ok w) c.in-Ok.ensures.starts c.in-Ok.ensures.form c.in-Ok.ensures.begun in
    record { ready = has_begun load load.schema c.settings_of-settings.result first s w begun }

pub finish-requires : goal.finish-requires
finish-requires g c =
    let load = load_of c.args.asked in
    let first = g.S.Shelf.seen c.args.shelf.now in
    let s = g.S.Shelf.seen c.start.new.shelf in
    let t = g.S.Shelf.seen c.hand_on.new.device in
    let w = c.in-Ok.writer in
    let v = c.hand_on.new.taker.writer in
    let begun = starting first s load.out load.schema c.settings_of-settings.result (Ok w) c.in-Ok.ensures.starts c.in-Ok.ensures.form c.in-Ok.ensures.begun in
    let has = has_begun load load.schema c.settings_of-settings.result first s w begun in
    let hands = c.in-Ok-hand_on.ensures.hands in
    record { there = λ whole. still_there s t w v hands.0.documents has (hands.0.took has) }

pub returns-in-Ok-finish-clause-loads : goal.returns-in-Ok-finish-clause-loads
returns-in-Ok-finish-clause-loads g c =
    let load = load_of c.args.asked in
    let first = g.S.Shelf.seen c.args.shelf.now in
    let s = g.S.Shelf.seen c.start.new.shelf in
    let t = g.S.Shelf.seen c.hand_on.new.device in
    let i = g.I.Source.seen c.args.input.now in
    let j = g.I.Source.seen c.hand_on.new.source in
    let w = c.in-Ok.writer in
    let v = c.hand_on.new.taker.writer in
    let begun = starting first s load.out load.schema c.settings_of-settings.result (Ok w) c.in-Ok.ensures.starts c.in-Ok.ensures.form c.in-Ok.ensures.begun in
    let has = has_begun load load.schema c.settings_of-settings.result first s w begun in
    let hands = c.in-Ok-hand_on.ensures.hands in
    let at = is_at load load.schema c.settings_of-settings.result first s t w v hands.0.documents begun refl c.settings_of-settings.ensures (hands.0.took has) in
    let ends = ending g.S.Shelf.seen c.hand_on.new.device c.finish.new.shelf v (Ok tt) (broken_by v) refl (still_there s t w v hands.0.documents has (hands.0.took has)) c.in-Ok-finish.ensures.broken c.in-Ok-finish.ensures.ends in
    ended load first t (g.S.Shelf.seen c.finish.new.shelf) i j v hands.0.documents at hands.0.known hands.1 ends

pub returns-in-Ok-hand_on-clause-loads : goal.returns-in-Ok-hand_on-clause-loads
returns-in-Ok-hand_on-clause-loads g c =
    let load = load_of c.args.asked in
    let first = g.S.Shelf.seen c.args.shelf.now in
    let s = g.S.Shelf.seen c.start.new.shelf in
    let t = g.S.Shelf.seen c.hand_on.new.device in
    let i = g.I.Source.seen c.args.input.now in
    let j = g.I.Source.seen c.hand_on.new.source in
    let w = c.in-Ok.writer in
    let v = c.hand_on.new.taker.writer in
    let begun = starting first s load.out load.schema c.settings_of-settings.result (Ok w) c.in-Ok.ensures.starts c.in-Ok.ensures.form c.in-Ok.ensures.begun in
    let has = has_begun load load.schema c.settings_of-settings.result first s w begun in
    let hands = c.in-Ok-hand_on.ensures.hands in
    let at = is_at load load.schema c.settings_of-settings.result first s t w v hands.0.documents begun refl c.settings_of-settings.ensures (hands.0.took has) in
    let ends = ending g.S.Shelf.seen c.hand_on.new.device c.finish.new.shelf v (Err c.in-Err-finish.fault) (broken_by v) refl (still_there s t w v hands.0.documents has (hands.0.took has)) c.in-Err-finish.ensures.broken c.in-Err-finish.ensures.ends in
    not_ended load first t (g.S.Shelf.seen c.finish.new.shelf) i j v c.in-Err-finish.fault hands.0.documents at hands.0.known hands.1 ends

pub returns-in-Err-Input-clause-loads : goal.returns-in-Err-Input-clause-loads
returns-in-Err-Input-clause-loads g c =
    let load = load_of c.args.asked in
    let first = g.S.Shelf.seen c.args.shelf.now in
    let s = g.S.Shelf.seen c.start.new.shelf in
    let t = g.S.Shelf.seen c.hand_on.new.device in
    let i = g.I.Source.seen c.args.input.now in
    let j = g.I.Source.seen c.hand_on.new.source in
    let w = c.in-Ok.writer in
    let v = c.hand_on.new.taker.writer in
    let begun = starting first s load.out load.schema c.settings_of-settings.result (Ok w) c.in-Ok.ensures.starts c.in-Ok.ensures.form c.in-Ok.ensures.begun in
    let has = has_begun load load.schema c.settings_of-settings.result first s w begun in
    let hands = rw c.in-Err-Input.field-0-is at c.in-Err-Input.ensures.hands in
    let at = is_at load load.schema c.settings_of-settings.result first s t w v hands.0.documents begun refl c.settings_of-settings.ensures (hands.0.took has) in
    stopped load first t i j v c.in-Err-Input.why hands.0.documents at hands.0.known hands.1

pub returns-in-Ok-clause-loads : goal.returns-in-Ok-clause-loads
returns-in-Ok-clause-loads g c =
    let load = load_of c.args.asked in
    let first = g.S.Shelf.seen c.args.shelf.now in
    let s = g.S.Shelf.seen c.start.new.shelf in
    let t = g.S.Shelf.seen c.hand_on.new.device in
    let i = g.I.Source.seen c.args.input.now in
    let j = g.I.Source.seen c.hand_on.new.source in
    let w = c.in-Ok.writer in
    let v = c.hand_on.new.taker.writer in
    let begun = starting first s load.out load.schema c.settings_of-settings.result (Ok w) c.in-Ok.ensures.starts c.in-Ok.ensures.form c.in-Ok.ensures.begun in
    let has = has_begun load load.schema c.settings_of-settings.result first s w begun in
    let hands = rw c.in-Err-Taker.field-0-is at c.in-Err-Taker.ensures.hands in
    let refused = hands.0.refused has in
    let at = is_at load load.schema c.settings_of-settings.result first s refused.before w refused.writer hands.0.documents begun refl c.settings_of-settings.ensures refused.took in
    not_taken load first refused.before t i j refused.writer c.in-Err-Taker.fault hands.0.documents hands.0.document at hands.0.known hands.1 refused.refused

pub returns-clause-loads : goal.returns-clause-loads
returns-clause-loads g c =
    let load = load_of c.args.asked in
    let first = g.S.Shelf.seen c.args.shelf.now in
    let s = g.S.Shelf.seen c.start.new.shelf in
    not_started load first s (g.I.Source.seen c.args.input.now) c.in-Err.fault (starting first s load.out load.schema c.settings_of-settings.result (Err c.in-Err.fault) c.in-Err.ensures.starts tt tt)
