use Rattle.std.proofs.Common.{take, inl, inr}
use Rattle.std.proofs.lemmas.Result.{IfErr-weaker}
use Rattle.mc_delta.specs.Deltas.{IsEntryFault, IsFieldFault}
use Rattle.mc_delta.specs.declared.fault.DeltaError.{DeltaError}
use Rattle.mc_delta.proofs.TakeFacts.{has_entry_at, entry_bad, on_element, on_tomb}
use Rattle.mc_delta.proofs.read.take_field.Goals as goal

pub returns-in-1-clause-taken : goal.returns-in-1-clause-taken
returns-in-1-clause-taken c =
    let has = has_entry_at c.args.bytes.now c.args.field c.in-Part.from c.in-Part.to c.in-Part.is c.requires.ends c.requires.within in
    on_element c.args.bytes.now c.args.field c.in-Part.from c.in-Part.to c.args.delta.now c.take_element.new.elements c.take_element.result has c.in-1.is c.take_element.ensures.taken c.take_element.ensures.fine

pub returns-in-1-clause-fault : goal.returns-in-1-clause-fault
returns-in-1-clause-fault c =
    let text = c.args.bytes.now in
    let from = c.in-Part.from in
    let to = c.in-Part.to in
    let has = has_entry_at text c.args.field from to c.in-Part.is c.requires.ends c.requires.within in
    IfErr-weaker c.take_element.result (λ (error : DeltaError). IsEntryFault (take to text) from error) (λ (error : DeltaError). IsFieldFault text c.args.field error) (entry_bad text c.args.field from to has (inl c.in-1.is)) c.take_element.ensures.fault

pub returns-in-2-clause-taken : goal.returns-in-2-clause-taken
returns-in-2-clause-taken c =
    let has = has_entry_at c.args.bytes.now c.args.field c.in-Part.from c.in-Part.to c.in-Part.is c.requires.ends c.requires.within in
    on_tomb c.args.bytes.now c.args.field c.in-Part.from c.in-Part.to c.args.delta.now c.take_tomb.new.tombstones c.take_tomb.result has c.in-2.is c.take_tomb.ensures.taken c.take_tomb.ensures.fine

pub returns-in-2-clause-fault : goal.returns-in-2-clause-fault
returns-in-2-clause-fault c =
    let text = c.args.bytes.now in
    let from = c.in-Part.from in
    let to = c.in-Part.to in
    let has = has_entry_at text c.args.field from to c.in-Part.is c.requires.ends c.requires.within in
    IfErr-weaker c.take_tomb.result (λ (error : DeltaError). IsEntryFault (take to text) from error) (λ (error : DeltaError). IsFieldFault text c.args.field error) (entry_bad text c.args.field from to has (inr c.in-2.is)) c.take_tomb.ensures.fault
