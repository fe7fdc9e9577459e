use Rattle.std.proofs.Common.{◌≡◌, inl, inr, refl}
use Rattle.std.proofs.lemmas.Result.{err_from_is_err_and}
use Rattle.lpis_run_publish.proofs.LeavingLemmas.{leaves_committed, leaves_kept, leaves_unreached, still_settled}
use Rattle.lpis_run_publish.proofs.PublishLemmas.{memory-no-store, publication-accepted, published-accepted}
use Rattle.lpis_run_publish.proofs.publish.publish_accepted.Goals as goal

pub returns-in-Ok-clause-publishes : goal.returns-in-Ok-clause-publishes
returns-in-Ok-clause-publishes g c = λ candidate made.
    let told = c.in_ok-answer.ensures in
    let published = c.in-Ok.ensures.publishes candidate made in
    record {
      answer = publication-accepted c.args.head.items candidate c.args.register.now.held c.args.accepted c.change.result.now c.year.result
          c.in_ok-answer.answer.text.items c.in_ok-answer.answer.status c.year.ensures made c.change.ensures told.text told.status;
      published = published-accepted candidate c.args.register.now.held c.commit.new.self.held c.args.accepted c.change.result.now made c.change.ensures told.ascend
          published.follows published.once;
      leaves = leaves_committed g.S.Store (λ asked. asked ≡ candidate) c.args.register.now c.commit.new.self candidate refl c.args.accepted made c.in_ok-answer.answer _ told.status
          published.follows (c.in-Ok.ensures.stores candidate made) c.in-Ok.ensures.runs;
    }

pub returns-in_err-answer-clause-publishes : goal.returns-in_err-answer-clause-publishes
returns-in_err-answer-clause-publishes g c = λ candidate made.
    let p = err_from_is_err_and c.from_residual.result c.from_residual.ensures.1 in
    rw p.1 (record {
      answer = tt;
      published = tt;
      leaves = leaves_unreached g.S.Store (λ asked. asked ≡ candidate) c.args.register.now p.0 p.2;
    })

pub returns-in-Err-Memory-clause-publishes : goal.returns-in-Err-Memory-clause-publishes
returns-in-Err-Memory-clause-publishes g c = λ candidate made.
    let old = c.args.register.now in
    let new = c.commit.new.self in
    record {
      answer = tt;
      published = tt;
      leaves = leaves_kept g.S.Store (λ asked. asked ≡ candidate) old new candidate refl c.args.accepted made _ _ (inl refl) (c.in-Err-Memory.ensures.publishes candidate made).refused
          (c.in-Err-Memory.ensures.stores candidate made) c.in-Err-Memory.ensures.runs
          (λ other. elim c.in-Err-Memory.ensures.untouched [
            | inl (inl e) ↦ cc e
            | inl (inr e) ↦ cc e
            | inr p ↦ still_settled g.S.Store old new p.1
          ]) (λ clean. memory-no-store _ (inl refl));
    }

pub returns-in-Err-Store-clause-publishes : goal.returns-in-Err-Store-clause-publishes
returns-in-Err-Store-clause-publishes g c = λ candidate made.
    let ends = c.in-Err-Store.ensures in
    record {
      answer = tt;
      published = tt;
      leaves = leaves_kept g.S.Store (λ asked. asked ≡ candidate) c.args.register.now c.commit.new.self candidate refl c.args.accepted made _ _ (inr (inl refl))
          (ends.publishes candidate made).refused (ends.stores candidate made) ends.runs (λ other. absurd (other (inl refl)))
          (λ clean is. ends.cause clean c.in-Err-Store.field-0-is);
    }

pub returns-in-Err-Store-clause-cause : goal.returns-in-Err-Store-clause-cause
returns-in-Err-Store-clause-cause g c clean is = c.in-Err-Store.ensures.cause clean c.in-Err-Store.field-0-is

pub returns : goal.returns
returns g c = record {
  publishes = λ candidate made.
      let ends = c.in-Err.ensures in
      record {
        answer = tt;
        published = tt;
        leaves = leaves_kept g.S.Store (λ asked. asked ≡ candidate) c.args.register.now c.commit.new.self candidate refl c.args.accepted made _ _ (inr (inr refl))
            (ends.publishes candidate made).refused (ends.stores candidate made) ends.runs (λ other. absurd (other (inr refl)))
            (λ clean. memory-no-store _ (inr refl));
      };
  cause = λ clean is. memory-no-store _ (inr refl) is;
}
