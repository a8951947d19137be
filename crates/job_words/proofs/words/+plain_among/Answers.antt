use Rattle.job_words.specs.Words.{plain_words, items_of}
use Rattle.job_words.proofs.FewLemmas.{one_more}
use Rattle.job_words.proofs.words.+plain_among.Goals as goal

pub returns-in-Plain : goal.returns-in-Plain
returns-in-Plain n c =
    rw (c.in-Some.ensures.some, c.in-Plain.is, c.with_one.ensures)
    (one_more (λ word. word.now) c.in-Plain.word c.plain_among-behind.result (plain_words (items_of c.in-Some.rest.now)) c.plain_among-behind.ensures)
