use Rattle.std.proofs.Common.{◌≡◌, None, Some, refl, sym, ap, subst, ◌∙◌}
use Rattle.block_pool.specs.Handles.{PoolName}
use Rattle.dia_file.specs.Files.{FileValue}
use Rattle.scatter.specs.Feeds.{FeedValue}
use Rattle.scatter.specs.Stocks.{lines_of}
use Rattle.stock_tests.specs.Stocked.{numbers_line, IsOfNumbers}
use Rattle.stock_tests.proofs.stock.feed_kept.Goals as goal

pub restore-requires-2 : goal.restore-requires-2
restore-requires-2 g c =
    let a = c.in-Some-Some.a in
    let b = c.in-Some-Some.b in
    let stocked = c.requires.stocked in
    let feeds = c.in_ok-first.ensures.feeds stocked.a stocked.b stocked.there in
    let both : Some b ≡ Some stocked.b = sym c.in-Some-Some.is-1 ∙ c.drain-b.ensures.file ∙ ap (λ (f : FeedValue). f.keeps) feeds.1 in
    let b_is : b ≡ stocked.b = cc in
    let lent : lines_of c.two_feeds.new.stock 3 ≡ Some (numbers_line None None) = c.in_ok-first.ensures.lent refl refl in
    record {
      line = numbers_line (Some a) None;
      there = (c.restore.ensures.lines (numbers_line None None) lent).here;
      kinds_are = sym (ap (λ (f : FileValue). f.kinds) b_is ∙ stocked.is_b.kinds);
      lent = refl;
    }

pub returns-clause-stocked : goal.returns-clause-stocked
returns-clause-stocked g c = λ yes.
    let a = c.in-Some-Some.a in
    let b = c.in-Some-Some.b in
    let stocked = c.requires.stocked in
    let feeds = c.in_ok-first.ensures.feeds stocked.a stocked.b stocked.there in
    let both_a : Some a ≡ Some stocked.a = sym c.in-Some-Some.is-0 ∙ c.drain-a.ensures.file ∙ ap (λ (f : FeedValue). f.keeps) feeds.0 in
    let both_b : Some b ≡ Some stocked.b = sym c.in-Some-Some.is-1 ∙ c.drain-b.ensures.file ∙ ap (λ (f : FeedValue). f.keeps) feeds.1 in
    let a_is : stocked.a ≡ a = cc in
    let b_is : stocked.b ≡ b = cc in
    let lent : lines_of c.two_feeds.new.stock 3 ≡ Some (numbers_line None None) = c.in_ok-first.ensures.lent refl refl in
    let one : lines_of c.restore.new.self 3 ≡ Some (numbers_line (Some a) None) = (c.restore.ensures.lines (numbers_line None None) lent).here in
    let P : PoolName → Type 0 = λ pool. IsOfNumbers pool a in
    let Q : PoolName → Type 0 = λ pool. IsOfNumbers pool b in
    let F : FileValue → Type 0 = λ f. IsOfNumbers c.args.one.now.pool f in
    record {
      a = a;
      b = b;
      there = (c.restore-2.ensures.lines (numbers_line (Some a) None) one).here;
      is_a = subst P (sym c.drain-a.ensures.pool) (subst F a_is stocked.is_a);
      is_b = subst Q (sym c.drain-a.ensures.pool) (subst F b_is stocked.is_b);
    }
