-- Source: RFC 9112, sections 2.1, 3 and 6.2.
use Rattle.std.specs.Prelude.{ℕ, List, ◌++◌, length, codes, decimal}

-- a request that posts a body to a path of a host
unfoldable pub post_text : List ℕ → List ℕ → List ℕ → List ℕ
post_text path host body =
    codes "POST " ++ path ++ codes " HTTP/1.1\r\nHost: " ++ host ++ codes "\r\nContent-Length: " ++ decimal (length body) ++ codes "\r\n\r\n" ++ body
