use Rattle.std.proofs.Common.{◌≡◌, ◌<◌, Bool, if◌then◌else◌, [], ◌∷◌, ◌++◌, Option, Some, None, Result, Ok, Err, is_some, true, refl, sym, ap, subst, ◌∙◌}
use Rattle.std.specs.Prelude.{IfOk, IfSome}
use Rattle.std.proofs.lemmas.Result.{err_from_is_err_and}
use Rattle.tt_text.specs.Feeds.{stream_at, room_of}
use Rattle.tt_text.proofs.Stops.{OnFault-weaker, unread, passed_reads}
use Rattle.tt_prices_text.specs.Faults.{is_failed_read}
use Rattle.tt_prices_text.specs.Parts.{IsItem, part_of}
use Rattle.tt_prices_text.specs.Readers.{Reader, IsReaderAfter, IsReadingOf, ItemAgreesWhenCut}
use Rattle.tt_prices_text.specs.declared.fault.PricesTextFault.{PricesTextFault}
use Rattle.tt_proof_check.specs.Streams.{sizes_of}
use Rattle.tt_prices_text.specs.declared.header.Header.{Header}
use Rattle.tt_prices_text.specs.declared.item.Item.{Item}
use Rattle.tt_prices_file.specs.Inner.Accounts.{IsAccountOf}
use Rattle.tt_prices_file.proofs.Underway.{underway_start, underway_more, reading_item, item_is, item_part, part_is, counted_below, account_at, account_is, account_ends, finish_right, finish_fault, finish_lower, item_fault, reported_fault, reported_read, reported_reads, result_reads, header_fault, header_cut, text_fault, item_cut}
use Rattle.tt_prices_file.proofs.check.check_prices.Goals as goal

pub returns-in-Err-clause-fault : goal.returns-in-Err-clause-fault
returns-in-Err-clause-fault g c =
    reported_fault c.stop_from_text.result c.in-Err.fault c.stop_from_text.ensures _
    (λ calm bytes known. header_fault c.args.instance.now bytes (g.R.Source.remaining c.args.source.now)
    (g.R.Source.remaining c.new.new.source) known c.in-Err.fault c.in-Err.ensures.read calm)

pub returns-in-Err-clause-up_to_failed_read : goal.returns-in-Err-clause-up_to_failed_read
returns-in-Err-clause-up_to_failed_read g c =
    λ reported bytes known.
    let e = c.in-Err.ensures in
    header_cut c.args.instance.now (g.R.Source.remaining c.args.source.now) (g.R.Source.remaining c.new.new.source) c.in-Err.fault
    (reported_read c.stop_from_text.result c.in-Err.fault c.stop_from_text.ensures (cc)) e.known e.cut_short bytes known

pub loop-item-init : goal.loop-item-init
loop-item-init g c =
    let e = c.in-Ok.ensures in
    let p = c.args.instance.now in
    let same = c.header-header.ensures in
    let account = c.in_ok-account.ensures c.header-header.result (sym c.room_scale.ensures) in
    record {
      under = underway_start p (g.R.Source.remaining c.args.source.now)
          (g.R.Source.remaining c.new.new.source) c.in-Ok.reader c.in_ok-account.account e.known e.read e.cut_short e.start e.sizes e.header
          (subst (λ (z : Header). IsAccountOf p z [] c.in_ok-account.account) same account);
      header = same;
      calm = e.failed;
    }

pub finish-requires-clause-account : goal.finish-requires-clause-account
finish-requires-clause-account g c =
    let i = c.loop-item.invariant in
    account_ends c.args.instance.now (g.R.Source.remaining c.args.source.now) c.loop-item.reader (g.R.Source.remaining c.loop-item.source)
    c.loop-item.account i.under c.header-header.result i.header

pub returns-in-Ok-None-clause-right : goal.returns-in-Ok-None-clause-right
returns-in-Ok-None-clause-right g c =
    let p = c.args.instance.now in
    let start = g.R.Source.remaining c.args.source.now in
    let r = c.loop-item.reader in
    let now = g.R.Source.remaining c.loop-item.source in
    let a = c.loop-item.account in
    let i = c.loop-item.invariant in
    let u = i.under in
    let after = c.next_item.new.self in
    let later = g.R.Source.remaining c.next_item.new.source in
    let e = c.next_item.ensures in
    let is : c.next_item.result ≡ Ok None = c.in-Ok-None.is ∙ ap (λ (x : Option Item). Ok x) c.in-Ok-None.field-0-is in
    let says : is_some now ≡ true → IsReadingOf r (stream_at r.fed now) (Ok None) (stream_at after.fed later) =
    λ k. subst (λ (x : Result (Option Item) PricesTextFault). IsReadingOf r (stream_at r.fed now) x (stream_at after.fed later)) is
    (e.read u.sound k) in
    finish_right p start r now a u after later e.known (reading_item p start r now a u after later e.known None says)
    c.header-header.result i.header c.finish.result c.finish.ensures.right

pub returns-in-Ok-None-clause-fault : goal.returns-in-Ok-None-clause-fault
returns-in-Ok-None-clause-fault g c =
    let p = c.args.instance.now in
    let start = g.R.Source.remaining c.args.source.now in
    let r = c.loop-item.reader in
    let now = g.R.Source.remaining c.loop-item.source in
    let a = c.loop-item.account in
    let i = c.loop-item.invariant in
    let u = i.under in
    let after = c.next_item.new.self in
    let later = g.R.Source.remaining c.next_item.new.source in
    let e = c.next_item.ensures in
    let is : c.next_item.result ≡ Ok None = c.in-Ok-None.is ∙ ap (λ (x : Option Item). Ok x) c.in-Ok-None.field-0-is in
    let says : is_some now ≡ true → IsReadingOf r (stream_at r.fed now) (Ok None) (stream_at after.fed later) =
    λ k. subst (λ (x : Result (Option Item) PricesTextFault). IsReadingOf r (stream_at r.fed now) x (stream_at after.fed later)) is
    (e.read u.sound k) in
    finish_fault p start r now a u after later e.known (reading_item p start r now a u after later e.known None says)
    c.header-header.result i.header c.finish.result c.finish.ensures.fault

pub returns-in-Ok-None-clause-lower : goal.returns-in-Ok-None-clause-lower
returns-in-Ok-None-clause-lower g c =
    let i = c.loop-item.invariant in
    finish_lower c.args.instance.now c.header-header.result i.under.parts c.loop-item.account
    (account_at c.args.instance.now (g.R.Source.remaining c.args.source.now) c.loop-item.reader (g.R.Source.remaining c.loop-item.source)
    c.loop-item.account i.under c.header-header.result i.header) c.finish.result c.finish.ensures.fault

pub returns-in-Ok-None-clause-failed : goal.returns-in-Ok-None-clause-failed
returns-in-Ok-None-clause-failed g c =
    let u = c.loop-item.invariant.under in
    let before = g.R.Source.has_failed c.args.source.now in
    let is : c.next_item.result ≡ Ok None = c.in-Ok-None.is ∙ ap (λ (x : Option Item). Ok x) c.in-Ok-None.field-0-is in
    let calm = result_reads c.next_item.result (Ok None) is_failed_read _ _ is (c.next_item.ensures.failed u.sound)
    ∙ c.loop-item.invariant.calm in
    calm ∙ ap (λ (b : Bool). if b then true else before) (sym c.finish.ensures.unread)

pub returns-in-Err-next_item-clause-fault : goal.returns-in-Err-next_item-clause-fault
returns-in-Err-next_item-clause-fault g c =
    let p = c.args.instance.now in
    let start = g.R.Source.remaining c.args.source.now in
    let r = c.loop-item.reader in
    let now = g.R.Source.remaining c.loop-item.source in
    let u = c.loop-item.invariant.under in
    let after = c.next_item.new.self in
    let later = g.R.Source.remaining c.next_item.new.source in
    let says : is_some now ≡ true → IsReadingOf r (stream_at r.fed now) (Err c.in-Err-next_item.fault) (stream_at after.fed later) =
    λ k. subst (λ (x : Result (Option Item) PricesTextFault). IsReadingOf r (stream_at r.fed now) x (stream_at after.fed later))
    c.in-Err-next_item.is (c.next_item.ensures.read u.sound k) in
    reported_fault c.stop_from_text-in-Err-next_item.result c.in-Err-next_item.fault c.stop_from_text-in-Err-next_item.ensures _
    (λ calm bytes known. text_fault p start r now c.loop-item.account u after later c.in-Err-next_item.fault says bytes known calm)

pub returns-in-Err-next_item-clause-failed : goal.returns-in-Err-next_item-clause-failed
returns-in-Err-next_item-clause-failed g c =
    let t = c.in-Err-next_item.fault in
    let u = c.loop-item.invariant.under in
    reported_reads c.stop_from_text-in-Err-next_item.result t _ _ c.stop_from_text-in-Err-next_item.ensures
    (result_reads c.next_item.result (Err t) is_failed_read _ _ c.in-Err-next_item.is (c.next_item.ensures.failed u.sound)
    ∙ ap (λ (b : Bool). if is_failed_read t then true else b) c.loop-item.invariant.calm)

pub returns-in-Err-next_item-clause-up_to_failed_read :
    goal.returns-in-Err-next_item-clause-up_to_failed_read
returns-in-Err-next_item-clause-up_to_failed_read g c =
    λ reported bytes known.
    let p = c.args.instance.now in
    let start = g.R.Source.remaining c.args.source.now in
    let r = c.loop-item.reader in
    let now = g.R.Source.remaining c.loop-item.source in
    let u = c.loop-item.invariant.under in
    let after = c.next_item.new.self in
    let later = g.R.Source.remaining c.next_item.new.source in
    let cut = subst (λ (x : Result (Option Item) PricesTextFault). ItemAgreesWhenCut r now x after.fed later) c.in-Err-next_item.is
    (c.next_item.ensures.cut_short u.sound) in
    item_cut p start r now c.loop-item.account u after later c.in-Err-next_item.fault
    (reported_read c.stop_from_text-in-Err-next_item.result c.in-Err-next_item.fault
    c.stop_from_text-in-Err-next_item.ensures (cc))
    c.next_item.ensures.known cut bytes known

pub take_item-requires-clause-item : goal.take_item-requires-clause-item
take_item-requires-clause-item g c =
    let r = c.loop-item.reader in
    let is : c.next_item.result ≡ Ok (Some c.in-Ok-Some.item) = c.in-Ok-Some.is ∙ ap (λ (x : Option Item). Ok x) c.in-Ok-Some.field-0-is in
    let item = subst (λ (x : Result (Option Item) PricesTextFault). IfOk x (λ o. IfSome o (IsItem r.sizes r.header.has_rooms))) is
    c.next_item.ensures.item in
    subst (λ (z : Header). IsItem (sizes_of c.args.instance.now) z.has_rooms c.in-Ok-Some.item) (sym c.loop-item.invariant.header)
    (item_is c.args.instance.now (g.R.Source.remaining c.args.source.now) r (g.R.Source.remaining c.loop-item.source) c.loop-item.account
    c.loop-item.invariant.under c.in-Ok-Some.item item)

pub take_item-requires-clause-room : goal.take_item-requires-clause-room
take_item-requires-clause-room g c =
    let r = c.loop-item.reader in
    let after = c.next_item.new.self in
    let is : c.next_item.result ≡ Ok (Some c.in-Ok-Some.item) = c.in-Ok-Some.is ∙ ap (λ (x : Option Item). Ok x) c.in-Ok-Some.field-0-is in
    let forward = subst (λ (x : Result (Option Item) PricesTextFault). IfOk x (λ o. IfSome o (λ _. room_of after.fed < room_of r.fed)))
    is c.next_item.ensures.forward in
    counted_below c.args.instance.now (g.R.Source.remaining c.args.source.now) r (g.R.Source.remaining c.loop-item.source)
    c.loop-item.account c.loop-item.invariant.under (room_of after.fed) forward

pub take_item-requires-clause-account : goal.take_item-requires-clause-account
take_item-requires-clause-account g c =
    let i = c.loop-item.invariant in
    account_is c.args.instance.now (g.R.Source.remaining c.args.source.now) c.loop-item.reader (g.R.Source.remaining c.loop-item.source)
    c.loop-item.account i.under c.header-header.result i.header

pub returns-in_err-take_item-clause-fault : goal.returns-in_err-take_item-clause-fault
returns-in_err-take_item-clause-fault g c =
    let p = c.args.instance.now in
    let start = g.R.Source.remaining c.args.source.now in
    let r = c.loop-item.reader in
    let now = g.R.Source.remaining c.loop-item.source in
    let i = c.loop-item.invariant in
    let u = i.under in
    let after = c.next_item.new.self in
    let later = g.R.Source.remaining c.next_item.new.source in
    let e = c.next_item.ensures in
    let k = c.in-Ok-Some.item in
    let is : c.next_item.result ≡ Ok (Some k) = c.in-Ok-Some.is ∙ ap (λ (x : Option Item). Ok x) c.in-Ok-Some.field-0-is in
    let item = subst (λ (x : Result (Option Item) PricesTextFault). IfOk x (λ o. IfSome o (IsItem r.sizes r.header.has_rooms))) is e.item in
    let says : is_some now ≡ true → IsReadingOf r (stream_at r.fed now) (Ok (Some k)) (stream_at after.fed later) =
    λ kn. subst (λ (x : Result (Option Item) PricesTextFault). IsReadingOf r (stream_at r.fed now) x (stream_at after.fed later)) is
    (e.read u.sound kn) in
    let f = err_from_is_err_and c.from_residual-in_err-take_item.result c.from_residual-in_err-take_item.ensures.1 in
    rw (f.1, f.2) (OnFault-weaker c.in_err-take_item.field-0.0 _ _ (λ x explains bytes known.
    item_fault p start r now c.loop-item.account u after later e.known c.header-header.result i.header k item says x explains bytes known)
    c.in_err-take_item.ensures.fault)

pub returns-in_err-take_item-clause-failed : goal.returns-in_err-take_item-clause-failed
returns-in_err-take_item-clause-failed g c =
    let s = c.in_err-take_item.field-0.0 in
    let u = c.loop-item.invariant.under in
    let before = g.R.Source.has_failed c.args.source.now in
    let is : c.next_item.result ≡ Ok (Some c.in-Ok-Some.item) = c.in-Ok-Some.is
    ∙ ap (λ (x : Option Item). Ok x) c.in-Ok-Some.field-0-is in
    let calm = result_reads c.next_item.result (Ok (Some c.in-Ok-Some.item)) is_failed_read _ _ is
    (c.next_item.ensures.failed u.sound) ∙ c.loop-item.invariant.calm in
    passed_reads c.from_residual-in_err-take_item.result s before before _ c.from_residual-in_err-take_item.ensures.1
    (calm ∙ unread s before c.in_err-take_item.ensures.unread) refl

pub loop-item-smaller-in_ok-take_item : goal.loop-item-smaller-in_ok-take_item
loop-item-smaller-in_ok-take_item g c =
    let r = c.loop-item.reader in
    let after = c.next_item.new.self in
    let is : c.next_item.result ≡ Ok (Some c.in-Ok-Some.item) = c.in-Ok-Some.is ∙ ap (λ (x : Option Item). Ok x) c.in-Ok-Some.field-0-is in
    subst (λ (x : Result (Option Item) PricesTextFault). IfOk x (λ o. IfSome o (λ _. room_of after.fed < room_of r.fed)))
    is c.next_item.ensures.forward

pub loop-item-preserved-in_ok-take_item : goal.loop-item-preserved-in_ok-take_item
loop-item-preserved-in_ok-take_item g c =
    let p = c.args.instance.now in
    let start = g.R.Source.remaining c.args.source.now in
    let r = c.loop-item.reader in
    let now = g.R.Source.remaining c.loop-item.source in
    let a = c.loop-item.account in
    let i = c.loop-item.invariant in
    let u = i.under in
    let after = c.next_item.new.self in
    let later = g.R.Source.remaining c.next_item.new.source in
    let e = c.next_item.ensures in
    let k = c.in-Ok-Some.item in
    let is : c.next_item.result ≡ Ok (Some k) = c.in-Ok-Some.is ∙ ap (λ (x : Option Item). Ok x) c.in-Ok-Some.field-0-is in
    let goes = subst (λ (x : Result (Option Item) PricesTextFault). IsReaderAfter r x after) is (e.state u.sound) in
    let item = subst (λ (x : Result (Option Item) PricesTextFault). IfOk x (λ o. IfSome o (IsItem r.sizes r.header.has_rooms))) is e.item in
    let forward = subst (λ (x : Result (Option Item) PricesTextFault). IfOk x (λ o. IfSome o (λ _. room_of after.fed < room_of r.fed)))
    is e.forward in
    let says : is_some now ≡ true → IsReadingOf r (stream_at r.fed now) (Ok (Some k)) (stream_at after.fed later) =
    λ kn. subst (λ (x : Result (Option Item) PricesTextFault). IsReadingOf r (stream_at r.fed now) x (stream_at after.fed later)) is
    (e.read u.sound kn) in
    let cut = subst (λ (x : Result (Option Item) PricesTextFault). ItemAgreesWhenCut r now x after.fed later) is (e.cut_short u.sound) in
    let more = c.in_ok-take_item.ensures.added u.parts (account_at p start r now a u c.header-header.result i.header) in
    record {
      under = underway_more p start r now a u after later e.known c.take_item.new.account k goes forward says cut
          (part_is p start r now a u k (item_part r.sizes r.header.has_rooms k item))
          (subst (λ (z : Header). IsAccountOf p z (u.parts ++ part_of k ∷ []) c.take_item.new.account) i.header more);
      header = i.header ∙ sym (ap (λ (z : Reader). z.header) goes.1);
      calm = result_reads c.next_item.result (Ok (Some k)) is_failed_read _ _ is (e.failed u.sound) ∙ i.calm;
    }

pub loop-item-smaller : goal.loop-item-smaller
loop-item-smaller g c =
    let r = c.loop-item.reader in
    let after = c.next_item.new.self in
    let is : c.next_item.result ≡ Ok (Some c.in-Ok-Some.item) = c.in-Ok-Some.is ∙ ap (λ (x : Option Item). Ok x) c.in-Ok-Some.field-0-is in
    subst (λ (x : Result (Option Item) PricesTextFault). IfOk x (λ o. IfSome o (λ _. room_of after.fed < room_of r.fed)))
    is c.next_item.ensures.forward

pub loop-item-preserved : goal.loop-item-preserved
loop-item-preserved g c =
    let p = c.args.instance.now in
    let start = g.R.Source.remaining c.args.source.now in
    let r = c.loop-item.reader in
    let now = g.R.Source.remaining c.loop-item.source in
    let a = c.loop-item.account in
    let i = c.loop-item.invariant in
    let u = i.under in
    let after = c.next_item.new.self in
    let later = g.R.Source.remaining c.next_item.new.source in
    let e = c.next_item.ensures in
    let k = c.in-Ok-Some.item in
    let is : c.next_item.result ≡ Ok (Some k) = c.in-Ok-Some.is ∙ ap (λ (x : Option Item). Ok x) c.in-Ok-Some.field-0-is in
    let goes = subst (λ (x : Result (Option Item) PricesTextFault). IsReaderAfter r x after) is (e.state u.sound) in
    let item = subst (λ (x : Result (Option Item) PricesTextFault). IfOk x (λ o. IfSome o (IsItem r.sizes r.header.has_rooms))) is e.item in
    let forward = subst (λ (x : Result (Option Item) PricesTextFault). IfOk x (λ o. IfSome o (λ _. room_of after.fed < room_of r.fed)))
    is e.forward in
    let says : is_some now ≡ true → IsReadingOf r (stream_at r.fed now) (Ok (Some k)) (stream_at after.fed later) =
    λ kn. subst (λ (x : Result (Option Item) PricesTextFault). IsReadingOf r (stream_at r.fed now) x (stream_at after.fed later)) is
    (e.read u.sound kn) in
    let cut = subst (λ (x : Result (Option Item) PricesTextFault). ItemAgreesWhenCut r now x after.fed later) is (e.cut_short u.sound) in
    let more = c.in_ok-take_item.ensures.added u.parts (account_at p start r now a u c.header-header.result i.header) in
    record {
      under = underway_more p start r now a u after later e.known c.take_item.new.account k goes forward says cut
          (part_is p start r now a u k (item_part r.sizes r.header.has_rooms k item))
          (subst (λ (z : Header). IsAccountOf p z (u.parts ++ part_of k ∷ []) c.take_item.new.account) i.header more);
      header = i.header ∙ sym (ap (λ (z : Reader). z.header) goes.1);
      calm = result_reads c.next_item.result (Ok (Some k)) is_failed_read _ _ is (e.failed u.sound) ∙ i.calm;
    }
