use Rattle.std.proofs.Common.{◌≡◌, Err, vec_items, subst}
use Rattle.std.proofs.lemmas.Result.{IfOk-weaker}
use Rattle.schedule_text.specs.Reading.{plan, Reads}
use Rattle.listing.specs.Listing.{fault_listing_text}
use Rattle.schedule.specs.Program.{printed, PrintedSafely}
use Rattle.schedule.specs.Running.{Plays}
use Rattle.schedule.proofs.Answered.{prints_plan, safe_plan, prints_fault, safe_fault}
use Rattle.schedule.proofs.answer.answer.Goals as goal

pub play-requires : goal.play-requires
play-requires c = (c.in-Ok.ensures.laws.schedules.only c.args.text.now (plan c.in-Ok.schedule) c.in-Ok.ensures.reads).0

pub returns-in-Ok : goal.returns-in-Ok
returns-in-Ok c =
    let text = c.args.text.now in
    let p = plan c.in-Ok.schedule in
    let read = c.in-Ok.ensures.reads in
    record {
      prints = IfOk-weaker c.play.result (λ v. Plays p (vec_items v)) (λ v. vec_items v ≡ printed text)
          (λ v. prints_plan text (vec_items v) p read) c.play.ensures;
      safely = IfOk-weaker c.play.result (λ v. Plays p (vec_items v)) (λ v. PrintedSafely text (vec_items v))
          (λ v. safe_plan text (vec_items v) p read) c.play.ensures;
    }

pub returns-in-Err-Refused : goal.returns-in-Err-Refused
returns-in-Err-Refused c =
    let text = c.args.text.now in
    let f = c.in-Err-Refused.fault in
    let read = subst (λ e. Reads text (Err e)) c.in-Err-Refused.field-0-is c.in-Err-Refused.ensures.reads in
    record {
      prints = IfOk-weaker c.fault_listing.result (λ v. vec_items v ≡ fault_listing_text f) (λ v. vec_items v ≡ printed text)
          (λ v. prints_fault text (vec_items v) f read) c.fault_listing.ensures;
      safely = IfOk-weaker c.fault_listing.result (λ v. vec_items v ≡ fault_listing_text f) (λ v. PrintedSafely text (vec_items v))
          (λ v. safe_fault text (vec_items v) f read) c.fault_listing.ensures;
    }
