use Rattle.std.proofs.Common.{◌≡◌, ℕ, List, ◌++◌, length, codes, decimal, ◌∙◌, ap}
use Rattle.boss_http.specs.Requests.{post_text}

-- a request, written part by part
pub posts : (t0 t1 t2 t3 t4 t5 t6 t7 path host size body : List ℕ) → t0 ≡ codes "POST " → t1 ≡ t0 ++ path → t2 ≡ t1 ++ codes " HTTP/1.1\r\nHost: "
    → t3 ≡ t2 ++ host → t4 ≡ t3 ++ codes "\r\nContent-Length: " → t5 ≡ t4 ++ size → t6 ≡ t5 ++ codes "\r\n\r\n" → t7 ≡ t6 ++ body
    → size ≡ decimal (length body) → t7 ≡ post_text path host body
unfolding post_text
posts t0 t1 t2 t3 t4 t5 t6 t7 path host size body zero one two three four five six seven count =
    let to_host : t3 ≡ codes "POST " ++ path ++ codes " HTTP/1.1\r\nHost: " ++ host =
    three ∙ ap (λ t. t ++ host) (two ∙ ap (λ t. t ++ codes " HTTP/1.1\r\nHost: ") (one ∙ ap (λ t. t ++ path) zero)) in
    let to_size : t5 ≡ codes "POST " ++ path ++ codes " HTTP/1.1\r\nHost: " ++ host ++ codes "\r\nContent-Length: " ++ decimal (length body) =
    five ∙ ap (λ digits. t4 ++ digits) count ∙ ap (λ t. t ++ decimal (length body)) (four ∙ ap (λ t. t ++ codes "\r\nContent-Length: ") to_host) in
    seven ∙ ap (λ t. t ++ body) (six ∙ ap (λ t. t ++ codes "\r\n\r\n") to_size)
