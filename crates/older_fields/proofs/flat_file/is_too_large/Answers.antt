use Rattle.std.proofs.Common.{◌*◌, nat_lt, take, drop, ap, ◌∙◌}
use Rattle.older_fields.specs.Flat.{executables_in, file_limit, front_len, shared_size}
use Rattle.older_fields.proofs.flat_file.is_too_large.Goals as goal

pub returns : goal.returns
returns c =
    let items = c.args.items.now in
    let front = c.split_at.ensures.front ∙ ap (λ n. take n items) c.front_len.ensures.count in
    let behind = c.split_at.ensures.back ∙ ap (λ n. drop n items) c.front_len.ensures.count in
    c.is_over.ensures
    ∙ ap (λ n. nat_lt file_limit (n * c.executables_in.result)) (c.in_ok-bytes.ensures ∙ ap shared_size front)
    ∙ ap (λ n. nat_lt file_limit (shared_size (take (front_len items) items) * n)) (c.executables_in.ensures ∙ ap executables_in behind)
